-- A fault that is not an allocation failure is one of the first twelve.
use Rattle.std.proofs.Common.{rules, arith, ◌≡◌}
use Rattle.std.proofs.Math.Nat.{lt_of_not-le}
use Rattle.c_values.proofs.unread.read_text.Goals as goal

pub returns-in-Err-2-clause-unread : goal.returns-in-Err-2-clause-unread
returns-in-Err-2-clause-unread c =
    let known : c.in-Err.fault.number ≡ 13 → ⊥ = search rules in
    record {
      none = c.in-Err.ensures.refused known;
      least = c.in-Err.ensures.number.0;
      most =
          (let below = lt_of_not-le {n = 13} {m = c.in-Err.fault.number}
          (λ far. known (omega (arith, far, c.in-Err.ensures.number))) in
          omega (arith, below));
      inner = c.in-Err.ensures.inner;
      line = c.in-Err.ensures.place.0;
      column = c.in-Err.ensures.place.1;
    }
