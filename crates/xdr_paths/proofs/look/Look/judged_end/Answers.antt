use Rattle.std.proofs.Common.{ℕ, List, subst}
use Rattle.std.proofs.lemmas.List.{take_rest}
use Rattle.xdr_types.specs.Outcome.{Outcome, Whole}
use Rattle.xdr_paths.proofs.Standing.{judged_end}
use Rattle.xdr_paths.proofs.look.Look.judged_end.Goals as goal

pub returns-in-Ok : goal.returns-in-Ok
returns-in-Ok c =
    λ n s.
    let kinds = c.args.self.now.schema.now.kinds in
    let l = c.args.self.now.limits in
    let bytes = c.args.self.now.bytes.now in
    judged_end kinds l bytes n c.args.kind.place c.args.at s c.depth-in_range.ensures.range c.in-Ok.ensures.whole.0
    c.in-Ok.used
    (subst (λ (b : List ℕ). Outcome kinds c.args.kind.place l b (Whole c.in-Ok.ensures.whole.0 c.in-Ok.used))
    (take_rest bytes c.args.at) c.in-Ok.ensures.whole.1)
