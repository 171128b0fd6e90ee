use Rattle.std.proofs.Common.{◌≡◌, ◌≤◌, ◌++◌, [], length, ap, sym, ◌∙◌, arith}
use Rattle.std.proofs.lemmas.List.{append-nil}
use Rattle.rpc_record.specs.Marked.{header}
use Rattle.rpc_record.specs.Reading.{capped}
use Rattle.rpc_record.proofs.Places.{StandsAt-same}
use Rattle.rpc_record.proofs.steps.after_heading.Goals as goal

pub returns-then-heading-space-clause-represents : goal.returns-then-heading-space-clause-represents
returns-then-heading-space-clause-represents c limit rs content before space u at t = record {
  before = before;
  content = content;
  last = c.args.heading.last;
  count = c.args.heading.count;
  more = [];
  upto = u;
  place = at;
  counted = c.requires;
  passes = omega arith;
  spelled = ap (λ b. before ++ b) (sym (append-nil (header c.args.heading.last c.args.heading.count)));
}

pub returns-else-heading-gt0-clause-represents : goal.returns-else-heading-gt0-clause-represents
returns-else-heading-gt0-clause-represents c limit rs content before space u at t =
    let none : 0 ≡ c.args.heading.count = omega arith in
    let same = ap (λ b. before ++ b) (append-nil (header c.args.heading.last 0)
    ∙ ap (header c.args.heading.last) none) in
    let fits : length (content ++ []) ≤ limit = omega (arith, ap length (append-nil content), u.fits) in
    StandsAt-same limit c.args.taken _ rs _ _ _ _ (append-nil content) same
    (c.after_fragment.ensures.represents limit rs content [] before u (omega arith) fits
    (t ∙ ap (λ b. capped (length b)) (sym same)))
