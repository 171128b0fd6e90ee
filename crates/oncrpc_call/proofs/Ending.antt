-- How a call ends, by what its page is and what a device did.
use Rattle.std.proofs.Common.{◌≡◌, ℕ, ◌≤◌, ◌⊎◌, inl, inr, List, Option, None, Some, Result, Ok, Err, refl, ap, ◌∙◌}
use Rattle.std.proofs.Common.{arith}
use Rattle.rpc_message.specs.declared.message.Reply.{Reply}
use Rattle.rpc_record.specs.declared.fault.RecordFault.TheVariants as flaw
use Rattle.rpc_engine.specs.declared.fault.ClientFault.{ClientFault}
use Rattle.rpc_engine.specs.declared.fault.ClientFault.TheVariants as fault
use Rattle.oncrpc_answers.specs.declared.failure.Failure.{Failure}
use Rattle.oncrpc_answers.specs.declared.failure.Failure.TheVariants as failure
use Rattle.oncrpc_answers.specs.Lines.{failure_line}
use Rattle.oncrpc_answers.specs.Status.{failure_status}
use Rattle.oncrpc_service.specs.Infos.{failure_of}
use Rattle.oncrpc_service.proofs.Ending.{not_done, three_or_four}
use Rattle.oncrpc_tasks.specs.Checked.{IsSaid}
use Rattle.oncrpc_tasks.specs.Devices.{Stream}
use Rattle.oncrpc_call.specs.Asked.{Wanted}
use Rattle.oncrpc_call.specs.CallEnds.{AnswerEnds, DeviceFails, FailureSaid, Prints}
use Rattle.oncrpc_call.specs.Replies.{Refuses, Shows}

-- an answer of which something is shown or said is no failure
shown_well : (w : Wanted) (answer : Result Reply ClientFault) (text : List ℕ) → Shows w answer text
    → failure_of answer ≡ None
shown_well w (Ok reply) text s = refl
shown_well w (Err f) text s = absurd s

refused_well : (w : Wanted) (answer : Result Reply ClientFault) (line : List ℕ) → Refuses w answer line
    → failure_of answer ≡ None
refused_well w (Ok reply) line r = refl
refused_well w (Err (fault.Record (flaw.TooLong at))) line r = refl
refused_well w (Err (fault.Record (flaw.Truncated at))) line r = refl
refused_well w (Err (fault.Record flaw.Read)) line r = absurd r
refused_well w (Err (fault.Record (flaw.Write written))) line r = absurd r
refused_well w (Err (fault.Record flaw.TooManyReads)) line r = absurd r
refused_well w (Err (fault.Record flaw.NoMemory)) line r = absurd r
refused_well w (Err (fault.Reply f)) line r = refl
refused_well w (Err (fault.WrongXid got)) line r = refl
refused_well w (Err fault.Read) line r = absurd r
refused_well w (Err (fault.Write written)) line r = absurd r
refused_well w (Err fault.TooManyReads) line r = absurd r
refused_well w (Err fault.NoMemory) line r = absurd r

-- where there is no failure nothing is owed of one
owed_none : (o : Option Failure) (status : ℕ) → o ≡ None → (f : Failure) → o ≡ Some f → status ≡ failure_status f
owed_none o status none f some = absurd (cc (none, some))

-- the failure of an answer is what its status is of
owed : (o : Option Failure) (f : Failure) (status : ℕ) → status ≡ failure_status f
    → ((f ≡ failure.NoMemory) × (o ≡ None)) ⊎ (o ≡ Some f) → (g : Failure) → o ≡ Some g → status ≡ failure_status g
owed o f status e (inl own) g some = absurd (cc (own.1, some))
owed o f status e (inr is) g some =
    let same : f ≡ g = cc (is, some) in e ∙ ap failure_status same

-- the line of a write that failed under a result was said
write_said : {F : Type 0} (answer : Result Reply ClientFault) (stream : Stream F) (faults faults' : F) (status : ℕ)
    → failure_of answer ≡ None → status ≡ 3 → IsSaid stream faults faults' (failure_line failure.Write)
    → FailureSaid answer stream faults faults' status
write_said answer stream faults faults' status none three said =
    record { why = failure.Write; ended = inr (none, inr refl); status_is = three; said = said }

-- the line of what failed before anything was printed was said
failure_said : {F : Type 0} (answer : Result Reply ClientFault) (stream : Stream F) (faults faults' : F)
    (f : Failure) (status : ℕ) → status ≡ failure_status f
    → ((f ≡ failure.NoMemory) × (failure_of answer ≡ None)) ⊎ (failure_of answer ≡ Some f)
    → IsSaid stream faults faults' (failure_line f) → FailureSaid answer stream faults faults' status
failure_said answer stream faults faults' f status e (inl own) said =
    record { why = f; ended = inr (own.1, inl own.0); status_is = e; said = said }
failure_said answer stream faults faults' f status e (inr is) said =
    record { why = f; ended = inl is; status_is = e; said = said }

module _ {O F : Type 0} (w : Wanted) (answer : Result Reply ClientFault) (taken : O → Option (List ℕ))
    (lost : O → Option ℕ) (stream : Stream F) where
  -- a result was printed, or its beginning
  pub value_ends : (output output' : O) (faults faults' : F) (text : List ℕ) (status : ℕ) → Shows w answer text
      → Prints text taken lost stream output output' faults faults' status
      → AnswerEnds w answer taken lost stream output output' faults faults' status
  value_ends output output' faults faults' text status shows p =
      let known = p.known in
      record {
        known = elim known [
          | inl zero ↦ inl (omega (arith, zero))
          | inr three ↦ inr (inl three)
        ];
        printed = λ zero. record { text = text; shows = shows; written = p.written zero };
        unlost = p.unlost;
        silent = p.silent;
        said = λ one. absurd (omega (arith, known, one));
        unprinted = λ one. absurd (omega (arith, known, one));
        device = λ three. inr (record { text = text; shows = shows; begun = p.cut three }, p.failed three);
        wanting = λ four. absurd (omega (arith, known, four));
        told = λ low. let three : status ≡ 3 = omega (arith, known, low) in
            write_said answer stream faults faults' status (shown_well w answer text shows) three (p.told three);
        failed = owed_none (failure_of answer) status (shown_well w answer text shows);
      }

  -- the line of an answer without a result was said
  pub refusal_ends : (output : O) (faults faults' : F) (line : List ℕ) (status : ℕ) → Refuses w answer line
      → status ≡ 1 → IsSaid stream faults faults' line
      → AnswerEnds w answer taken lost stream output output faults faults' status
  refusal_ends output faults faults' line status refuses one said = record {
    known = inl (omega (arith, one));
    printed = λ zero. absurd (omega (arith, zero, one));
    unlost = λ zero. absurd (omega (arith, zero, one));
    silent = λ zero. absurd (omega (arith, zero, one));
    said = λ same. record { line = line; refuses = refuses; said = said };
    unprinted = λ same. refl;
    device = λ three. absurd (omega (arith, three, one));
    wanting = λ four. absurd (omega (arith, four, one));
    told = λ low. absurd (omega (arith, low, one));
    failed = owed_none (failure_of answer) status (refused_well w answer line refuses);
  }

  device_failed : (output : O) (f : Failure) (status : ℕ) → status ≡ failure_status f
      → ((f ≡ failure.NoMemory) × (failure_of answer ≡ None)) ⊎ (failure_of answer ≡ Some f) → status ≡ 3
      → DeviceFails w answer (output ≡ output) (taken output) (taken output) (lost output) (lost output)
  device_failed output f status e (inr is) three = inl ((f, is), refl)
  device_failed output f status e (inl own) three =
      let four : status ≡ 4 = e ∙ ap failure_status own.0 in absurd (omega (arith, four, three))

  -- a device failed, or memory was refused, before anything was printed
  pub failure_ends : (output : O) (faults faults' : F) (f : Failure) (status : ℕ) → status ≡ failure_status f
      → ((f ≡ failure.NoMemory) × (failure_of answer ≡ None)) ⊎ (failure_of answer ≡ Some f)
      → IsSaid stream faults faults' (failure_line f)
      → AnswerEnds w answer taken lost stream output output faults faults' status
  failure_ends output faults faults' f status e why said =
      let low : (k : ℕ) → status ≡ k → k ≤ 1 → ⊥ = λ k is small. not_done f status e (omega (arith, is, small)) in
      record {
        known = inr (three_or_four f status e);
        printed = λ zero. absurd (low 0 zero (omega arith));
        unlost = λ zero. absurd (low 0 zero (omega arith));
        silent = λ zero. absurd (low 0 zero (omega arith));
        said = λ one. absurd (low 1 one (omega arith));
        unprinted = λ one. absurd (low 1 one (omega arith));
        device = λ three. device_failed output f status e why three;
        wanting = λ four. refl;
        told = λ low. failure_said answer stream faults faults' f status e why said;
        failed = owed (failure_of answer) f status e why;
      }
