use Rattle.std.proofs.Common.{ap, sym, ◌∙◌, arith}
use Rattle.xdr_paths.specs.Nodes.{to_field}
use Rattle.xdr_paths.proofs.Marks.{same_cut, no_name}
use Rattle.xdr_paths.proofs.steps.first_name.Goals as goal

pub returns-then-is_empty-clause-only : goal.returns-then-is_empty-clause-only
returns-then-is_empty-clause-only c =
    λ name rest is marked e.
    let w = same_cut c.before_mark.result.0.now name c.before_mark.result.1.now rest c.before_mark.ensures.name is.1
    c.before_mark.ensures.mark marked (sym c.before_mark.ensures.cut ∙ e) in
    is.0 (sym w.0 ∙ no_name c.before_mark.result.0.now (grind arith))

pub returns-clause-only : goal.returns-clause-only
returns-clause-only c =
    λ name rest is marked e.
    let w = same_cut c.before_mark.result.0.now name c.before_mark.result.1.now rest c.before_mark.ensures.name is.1
    c.before_mark.ensures.mark marked (sym c.before_mark.ensures.cut ∙ e) in
    (ap to_field w.0, w.1)
