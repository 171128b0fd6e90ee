-- What taking the record that waits does.
use Rattle.std.proofs.Common.{◌≡◌, ℕ, ◌≤◌, List, [], ◌∷◌, ◌++◌, length, take, drop, refl, sym, ap, ◌∙◌, subst, arith}
use Rattle.std.proofs.Common.{Option, Some, None}
use Rattle.std.proofs.Math.Seq.{take-append_seam}
use Rattle.c_records.specs.declared.answer.Answer.{Answer}
use Rattle.c_records.specs.declared.answer.Answer.TheVariants as answer
use Rattle.c_records.specs.Held.{Held, Represents}
use Rattle.c_records.specs.Statuses.{status_of}
use Rattle.c_records.specs.Taken.{IsTakenBy, IsGiven}
use Rattle.c_records.proofs.Reported.{IsAt, Waiting, same_held}

-- it goes into a buffer that is large enough
given : (r old new : List ℕ) (waits : Option (List ℕ)) (a : Answer) → length r ≤ length old
    → IsGiven (Some r) waits old new a
    → (a ≡ answer.Whole (length r)) × (take (length r) new ≡ r)
given r old new waits (answer.Whole count) fits g = (
  ap answer.Whole g.0.0,
  ap (λ k. take (length r) k) g.0.1 ∙ take-append_seam r (drop (length r) old),
)
given r old new waits (answer.NoRoom needed) fits g = absurd (omega (arith, fits, g.0.1))
given r old new waits (answer.Refused f) fits g = absurd g.0
given r old new waits answer.BadLimit fits g = absurd g.0
given r old new waits answer.NoMemory fits g = absurd g.0
given r old new waits answer.NoReader fits g = absurd g.0
given r old new waits answer.More fits g = absurd g.0
given r old new waits answer.NoRecord fits g = absurd g.0

-- and then it waits no more
waits_no_more : (r old new : List ℕ) (waits : Option (List ℕ)) (a : Answer) → IsGiven (Some r) waits old new a
    → 0 ≡ status_of a → waits ≡ None
waits_no_more r old new waits (answer.Whole count) g z = g.1
waits_no_more r old new waits (answer.NoRoom needed) g z = absurd (omega (arith, z))
waits_no_more r old new waits (answer.Refused f) g z = absurd g.0
waits_no_more r old new waits answer.BadLimit g z = absurd g.0
waits_no_more r old new waits answer.NoMemory g z = absurd g.0
waits_no_more r old new waits answer.NoReader g z = absurd g.0
waits_no_more r old new waits answer.More g z = absurd g.0
waits_no_more r old new waits answer.NoRecord g z = absurd g.0

module _ (limit : ℕ) (bytes : List ℕ) (rs : List (List ℕ)) (r : List ℕ) (held left : Option Held) (old new : List ℕ)
    (a : Answer) (w : Waiting limit bytes rs r held) (t : IsTakenBy held left old new a) where
  by : IsTakenBy (Some w.reader) left old new a
  by = subst (λ (o : Option Held). IsTakenBy o left old new a) w.is t

  as_given : IsGiven (Some r) by.0.waits old new a
  as_given = subst (λ (k : Option (List ℕ)). IsGiven k by.0.waits old new a) w.waits.0 by.2.given

  pub past : 0 ≡ status_of a → IsAt limit bytes (rs ++ r ∷ []) left
  past z =
      let next : Held = record { reader = w.reader.reader; waits = None } in
      let whole : Held = record { reader = w.reader.reader; waits = Some r } in
      let is_whole : w.reader ≡ whole = same_held whole w.reader refl w.waits.0 in
      record {
        reader = next;
        is = by.1 ∙ ap (λ (l : Held). Some l)
            (same_held next by.0 by.2.reader (waits_no_more r old new by.0.waits a as_given z));
        limit_is = w.limit_is;
        taking = (refl, w.waits.1);
        represents = subst (λ (h : Held). Represents h bytes rs) is_whole w.represents;
      }

  pub taken : length r ≤ length old
      → (a ≡ answer.Whole (length r)) × (take (length r) new ≡ r) × IsAt limit bytes (rs ++ r ∷ []) left
  taken fits =
      let g = given r old new by.0.waits a fits as_given in
      (g.0, g.1, past (ap status_of (sym g.0)))
