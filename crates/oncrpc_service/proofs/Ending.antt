-- What the status of a failure says.
use Rattle.std.proofs.Common.{◌≡◌, ◌≤◌, ◌⊎◌, inl, inr, ℕ, List, Option, Some, Result, ap, ◌∙◌, arith}
use Rattle.xdr_io.specs.Reported.{Counts}
use Rattle.rpc_message.specs.declared.message.Reply.{Reply}
use Rattle.rpc_engine.specs.declared.fault.ClientFault.{ClientFault}
use Rattle.oncrpc_answers.specs.declared.failure.Failure.{Failure}
use Rattle.oncrpc_answers.specs.declared.failure.Failure.TheVariants as failure
use Rattle.oncrpc_answers.specs.Status.{failure_status}
use Rattle.oncrpc_service.specs.Infos.{failure_of}
use Rattle.oncrpc_service.specs.InfoEnds.{DeviceFails, ReportsInPart}

-- what made a failure: the exchange, memory, or a write under what the answer says
abbrev pub Made : (vers : ℕ) → Result Reply ClientFault → Failure → (unprinted : Type 0)
    → (taken taken' : Option (List ℕ)) → (lost lost' : Option ℕ) → Type 0
Made vers answer f unprinted taken taken' lost lost' =
    ((failure_of answer ≡ Some f) × unprinted)
    ⊎ (((f ≡ failure.NoMemory) × unprinted)
    ⊎ ((f ≡ failure.Write) × ReportsInPart vers answer taken taken' × Counts 1 lost lost'))

pub not_done : (f : Failure) (s : ℕ) → s ≡ failure_status f → s ≤ 1 → ⊥
not_done failure.Read s e low = omega (arith, e, low)
not_done failure.Write s e low = omega (arith, e, low)
not_done failure.TooManyReads s e low = omega (arith, e, low)
not_done failure.NoMemory s e low = omega (arith, e, low)

pub three_or_four : (f : Failure) (s : ℕ) → s ≡ failure_status f → (s ≡ 3) ⊎ (s ≡ 4)
three_or_four failure.Read s e = inl e
three_or_four failure.Write s e = inl e
three_or_four failure.TooManyReads s e = inl e
three_or_four failure.NoMemory s e = inr e

pub device_failed : (vers : ℕ) (answer : Result Reply ClientFault) (f : Failure) (unprinted : Type 0)
    (taken taken' : Option (List ℕ)) (lost lost' : Option ℕ) (s : ℕ) → s ≡ failure_status f
    → Made vers answer f unprinted taken taken' lost lost' → s ≡ 3
    → DeviceFails vers answer unprinted taken taken' lost lost'
device_failed vers answer f unprinted taken taken' lost lost' s e (inl (is, retained)) three = inl ((f, is), retained)
device_failed vers answer f unprinted taken taken' lost lost' s e (inr (inl (is, retained))) three =
    let four : s ≡ 4 = e ∙ ap failure_status is in absurd (omega (arith, four, three))
device_failed vers answer f unprinted taken taken' lost lost' s e (inr (inr (is, part, count))) three =
    inr (part, count)

pub wanted : (vers : ℕ) (answer : Result Reply ClientFault) (f : Failure) (unprinted : Type 0)
    (taken taken' : Option (List ℕ)) (lost lost' : Option ℕ) (s : ℕ) → s ≡ failure_status f
    → Made vers answer f unprinted taken taken' lost lost' → s ≡ 4 → unprinted
wanted vers answer f unprinted taken taken' lost lost' s e (inl (is, retained)) four = retained
wanted vers answer f unprinted taken taken' lost lost' s e (inr (inl (is, retained))) four = retained
wanted vers answer f unprinted taken taken' lost lost' s e (inr (inr (is, part, count))) four =
    let three : s ≡ 3 = e ∙ ap failure_status is in absurd (omega (arith, three, four))
