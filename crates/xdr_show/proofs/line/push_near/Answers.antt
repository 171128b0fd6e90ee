use Rattle.std.proofs.Common.{◌++◌, List, ℕ, [], codes, replicate, sym, ap, ◌∙◌, append-nil}
use Rattle.xdr_types.specs.KindViews.{kind_view}
use Rattle.xdr_show.specs.Line.{label}
use Rattle.xdr_show.specs.Private.Heads.{head_view}
use Rattle.xdr_show.specs.Private.Lines.{node_text}
use Rattle.xdr_show.proofs.Puts.{from_left}
use Rattle.xdr_show.proofs.line.push_near.Goals as goal

pub returns : goal.returns
returns c =
    let text : List ℕ = node_text c.args.schema.now.kinds (kind_view c.args.kind.now) (head_view c.args.head) in
    let end = c.write_before-end.ensures.written [] (sym (append-nil (replicate 128 32))) in
    c.in_ok-push_written.ensures (text ++ codes "\n") (c.in-Some.ensures.2 (codes "\n") end)
    ∙ ap (λ (l : List ℕ). c.args.out.now.items ++ l)
    (from_left (replicate c.args.spaces 32) (label c.args.name.now) text (codes "\n"))
