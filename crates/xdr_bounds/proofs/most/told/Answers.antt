use Rattle.std.proofs.Common.{Option, Bool, ℕ, true, sym, ap, ◌∙◌}
use Rattle.xdr_bounds.specs.Private.Amounts.{amount_at}
use Rattle.xdr_bounds.specs.Private.Rounds.{told}
use Rattle.xdr_bounds.proofs.most.told.Goals as goal

pub returns-then-not-is_at : goal.returns-then-not-is_at
returns-then-not-is_at c =
    ap (λ (b : Bool). told (amount_at c.args.amounts.now.items c.args.place) b)
    (sym c.if-not-is_at.true ∙ c.is_at.ensures)

pub returns-in-Some : goal.returns-in-Some
returns-in-Some c =
    ap (λ (a : Option ℕ). told a true) (sym c.in-Some.is ∙ c.noted.ensures)
    ∙ ap (λ (b : Bool). told (amount_at c.args.amounts.now.items c.args.place) b)
    (sym c.if-not-is_at.false ∙ c.is_at.ensures)

pub returns-in-None : goal.returns-in-None
returns-in-None c =
    ap (λ (a : Option ℕ). told a true) (sym c.in-None.is ∙ c.noted.ensures)
    ∙ ap (λ (b : Bool). told (amount_at c.args.amounts.now.items c.args.place) b)
    (sym c.if-not-is_at.false ∙ c.is_at.ensures)
