use Rattle.std.proofs.Common.{◌≡◌, ℕ, List, length, replicate, Option, None, refl, sym, ◌∙◌, subst}
use Rattle.xdr_types.specs.Kinds.{KindView}
use Rattle.xdr_bounds.specs.Private.Rounds.{AreReached}
use Rattle.xdr_bounds.proofs.Least.{are_least}
use Rattle.xdr_bounds.proofs.Lowering.{none_reached, keeps_trans}
use Rattle.xdr_bounds.proofs.fewest.least_amounts.Goals as goal

pub returns-clause-least : goal.returns-clause-least
returns-clause-least c = λ kinds place are.
    let shapes = c.args.shapes.now.items in
    let none = c.in_ok-amounts.amounts.items in
    let first = c.lower_in_order.new.amounts.items in
    let last = c.round.new.amounts.items in
    let kept = keeps_trans shapes none first last c.in_ok-lower_in_order.ensures
    (keeps_trans shapes first c.loop.amounts.items last c.loop.invariant c.round.ensures.keeps) in
    let begun : AreReached kinds none =
    subst (λ (x : List (Option ℕ)). AreReached kinds x) (sym c.in_ok-amounts.ensures)
    (none_reached kinds c.len.result) in
    are_least kinds shapes are last (kept.reached kinds are begun) (c.round.ensures.low c.loop-test.false) place
