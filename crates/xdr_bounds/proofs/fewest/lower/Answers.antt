use Rattle.std.proofs.Common.{◌≡◌, ℕ, ◌^◌, ◌<◌, ◌≤◌, length, Option, unwrap_or, refl, sym, subst, arith, true, false}
use Rattle.std.proofs.lemmas.Bool.{false≢true}
use Rattle.xdr_bounds.specs.Private.Rounds.{low}
use Rattle.xdr_bounds.proofs.Lowering.{is_low, keeps_set, weight-set}
use Rattle.xdr_bounds.proofs.fewest.lower.Goals as goal

pub returns-then-not-is_below-clause-low : goal.returns-then-not-is_below-clause-low
returns-then-not-is_below-clause-low c = λ e. (
  refl,
  is_low c.args.shapes.now.items c.args.amounts.now.items c.args.place c.index-shape.result.now
      c.least_of-amount.result c.requires.within c.index-shape.ensures c.least_of-amount.ensures
      (subst (λ (a : Option ℕ). unwrap_or a (2 ^ 64) ≤ unwrap_or c.least_of-amount.result (2 ^ 64)) c.noted.ensures
      (c.is_below.ensures.not_below c.if-not-is_below.true)),
)

pub returns-clause-keeps : goal.returns-clause-keeps
returns-clause-keeps c =
    keeps_set c.args.shapes.now.items c.args.amounts.now.items c.args.place c.index-shape.result.now
    c.least_of-amount.result c.requires.within c.index-shape.ensures c.least_of-amount.ensures c.requires.all
    (c.is_below.ensures.some c.if-not-is_below.false)

pub returns-clause-falls : goal.returns-clause-falls
returns-clause-falls c = λ e.
    weight-set c.args.amounts.now.items c.args.place c.least_of-amount.result
    (omega (arith, c.requires.within, c.requires.all))
    (subst (λ (a : Option ℕ). unwrap_or c.least_of-amount.result (2 ^ 64) < unwrap_or a (2 ^ 64)) c.noted.ensures
    (c.is_below.ensures.below c.if-not-is_below.false))
