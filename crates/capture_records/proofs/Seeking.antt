-- What comes where the next record is found in the bytes that wait.
use Rattle.std.proofs.Common.{◌≡◌, inl, inr, ℕ, ◌+◌, ◌-◌, ◌^◌, min, Bool, true, false, List, Result, Ok, Err}
use Rattle.std.proofs.Common.{sym, ap, ◌∙◌, subst, arith, IfOk}
use Rattle.std.proofs.lemmas.Bool.{false≢true}
use Rattle.capture_records.specs.declared.side.Next.TheVariants as next
use Rattle.capture_records.specs.declared.side.Side.{Side}
use Rattle.capture_records.specs.declared.step.Step.{Step}
use Rattle.capture_records.specs.declared.step.Step.TheVariants.{Tells}
use Rattle.capture_records.specs.declared.told.Told.TheVariants.{Passed}
use Rattle.capture_records.specs.Exact.{KeepsTold, StepsTold}
use Rattle.capture_records.specs.Finding.{IsFirstRecord}
use Rattle.capture_records.specs.Follows.{untaken_of}
use Rattle.capture_records.specs.Private.Leaving.{Leaves, LeavesFirst, StartsHere}
use Rattle.capture_records.specs.Sought.{IsSought, NextFinds, PassesNone, WaitsToBeKnown}
use Rattle.capture_records.proofs.Telling.{steps_from, steps_never}

module _ (old mid new : Side) (known found : Bool) (r : List ℕ) (there : found ≡ true)
    (told : StartsHere known old → KeepsTold old mid)
    (waits : WaitsToBeKnown known old → (found ≡ false) × KeepsTold old mid)
    (leaves : IsSought known old → Leaves old mid found) where
  -- what stands before a record is passed over
  pub finds_over : (mid.passed ≡ 0 → ⊥) → untaken_of new ≡ untaken_of mid → new.passed ≡ 0 → new.next ≡ next.Here
      → NextFinds old new known (Tells Passed mid.passed) r
  finds_over some same none here = record {
    begun = λ b. steps_never old new (Tells Passed mid.passed) r
        (λ first arrivals rs h. some ((told (inr b)).keeps first arrivals rs h).quiet.passed);
    waits = λ w. absurd (false≢true (sym (waits w).0 ∙ there));
    finds = λ h.
        let l : LeavesFirst old mid = (leaves h.sought).first there in
        let count : mid.passed ≡ min (old.passed + l.at) (2 ^ 64 - 1) = l.passed in
        inr (inl (record {
          at = l.at;
          first = l.first;
          some = omega (arith, some, count);
          tells = ap (λ (k : ℕ). Tells Passed k) l.passed;
          rest = same ∙ l.rest;
          passed = none;
          next = here;
        }));
  }

  -- nothing stands before it
  pub finds_there : mid.passed ≡ 0 → (s : Step) → StepsTold mid new s r × PassesNone s → NextFinds old new known s r
  finds_there none s t = record {
    begun = λ b. steps_from old mid new s r (told (inr b)) t.0;
    waits = λ w. absurd (false≢true (sym (waits w).0 ∙ there));
    finds = λ h.
        let l : LeavesFirst old mid = (leaves h.sought).first there in
        let count : mid.passed ≡ min (old.passed + l.at) (2 ^ 64 - 1) = l.passed in
        let at : l.at ≡ 0 = omega (arith, none, count) in
        inr (inr (record {
          first = subst (λ (k : ℕ). IsFirstRecord (untaken_of old) k) at l.first;
          none = omega (arith, none, count);
          passes = t.1;
        }));
  }

-- what holds of a result twice
pub both_ok : {A E : Type 0} (P Q : A → Type 0) (r : Result A E) → IfOk r P → IfOk r Q → IfOk r (λ x. P x × Q x)
both_ok P Q (Ok x) p q = (p, q)
both_ok P Q (Err e) p q = tt
