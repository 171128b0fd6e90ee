use Rattle.std.proofs.Common.{◌≡◌, ◌≤◌, ◌++◌, ◌-◌, List, ℕ, drop, ap, ◌∙◌, rules, arith}
use Rattle.xdr_show.specs.Line.{label}
use borrow.Rule.Slice.PartMut.{mid_of}
use Rattle.xdr_show.proofs.Puts.{from_blanks, to_end}
use Rattle.xdr_show.proofs.short.push_written.Goals as goal

pub returns : goal.returns
returns c = λ text is.
    let start = c.write_label-start.result in
    let line = c.write_label-start.new.line in
    let put = c.write_label-start.ensures.written text is in
    let few : c.args.spaces ≤ start = omega (arith, c.requires.0, c.write_label-start.ensures.start) in
    let from = start - c.args.spaces in
    let out = c.args.out.now.items in
    let new : c.extend_from_slice.new.self.items ≡ out ++ mid_of from (128 - from) line = search
    (rules, c.in_ok-extend_from_slice.ensures.items) in
    let all : mid_of from (128 - from) line ≡ drop from line = to_end line from 128 c.write_label-start.array_long in
    new
    ∙ ap (λ (l : List ℕ). out ++ l)
    (all ∙ from_blanks line (label c.args.name.now ++ text) start c.args.spaces few put)
