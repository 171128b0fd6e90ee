-- How asking a server by one call ends.
use Rattle.std.specs.Prelude.{◌≡◌, ◌⊎◌, ℕ, ◌≤◌, List, Option, None, Some, Result, Err}
use Rattle.std.specs.Io.KnownBytes.{Appends}
use Rattle.xdr_io.specs.Reported.{Counts, CountsAtMost}
use Rattle.xdr_io.specs.declared.input.TheConstants.{MOST_READS}
use Rattle.rpc_message.specs.declared.message.Reply.{Reply}
use Rattle.rpc_message.specs.View.{call_view}
use Rattle.rpc_message.specs.Spelling.{call}
use Rattle.rpc_engine.specs.declared.fault.ClientFault.{ClientFault}
use Rattle.rpc_engine.specs.declared.fault.ClientFault.TheVariants as fault
use Rattle.rpc_engine.specs.Exchanged.{Exchanged, IsExact, Wrote, read_failures, write_failures}
use Rattle.oncrpc_answers.specs.declared.failure.Failure.{Failure}
use Rattle.oncrpc_answers.specs.declared.failure.Failure.TheVariants as failure
use Rattle.oncrpc_answers.specs.Lines.{failure_line}
use Rattle.oncrpc_answers.specs.Status.{failure_status}
use Rattle.oncrpc_service.specs.DatagramEnds.{Desk}
use Rattle.oncrpc_service.specs.InfoEnds.{Line}
use Rattle.oncrpc_service.specs.Infos.{failure_of}
use Rattle.oncrpc_service.specs.Written.{InPart}
use Rattle.oncrpc_tasks.specs.Checked.{IsSaid}
use Rattle.oncrpc_tasks.specs.Devices.{Stream}
use Rattle.oncrpc_call.specs.declared.asked.Asked.{Asked}
use Rattle.oncrpc_call.specs.Asked.{Wanted, wanted_of}
use Rattle.oncrpc_call.specs.Datagrams.{AsksByDatagrams}
use Rattle.oncrpc_call.specs.Replies.{Refuses, Shows}

-- The result of an answer was printed, and nothing else.
pub record Printed (w : Wanted) (answer : Result Reply ClientFault) (taken taken' : Option (List ℕ)) : Type 0 where
  pub text : List ℕ
  pub shows : Shows w answer text
  pub written : Appends taken taken' text

-- The beginning of the result was printed, and not all of it.
pub record PrintedInPart (w : Wanted) (answer : Result Reply ClientFault) (taken taken' : Option (List ℕ))
    : Type 0 where
  pub text : List ℕ
  pub shows : Shows w answer text
  pub begun : InPart text taken taken'

-- The line of an answer without a result was said, as far as the stream of faults took it.
pub record Said {F : Type 0} (w : Wanted) (answer : Result Reply ClientFault) (stream : Stream F) (faults faults' : F)
    : Type 0 where
  pub line : List ℕ
  pub refuses : Refuses w answer line
  pub said : IsSaid stream faults faults' line

-- What a device did: the exchange met it and nothing was printed, or the output failed under the result.
abbrev pub DeviceFails : Wanted → Result Reply ClientFault → (unprinted : Type 0) → (taken taken' : Option (List ℕ))
    → (lost lost' : Option ℕ) → Type 0
DeviceFails w answer unprinted taken taken' lost lost' =
    (((f : Failure) × (failure_of answer ≡ Some f)) × unprinted)
    ⊎ (PrintedInPart w answer taken taken' × Counts 1 lost lost')

-- what ended a call that has no result and no line of a reply: the exchange's failure, and where it had none the memory
-- or the write of what is printed
abbrev pub EndedBy : Result Reply ClientFault → Failure → Type 0
EndedBy answer f =
    (failure_of answer ≡ Some f) ⊎ ((failure_of answer ≡ None) × ((f ≡ failure.NoMemory) ⊎ (f ≡ failure.Write)))

-- The line of what ended the call was said, as far as the stream of faults took it, and the status is its own.
pub record FailureSaid {F : Type 0} (answer : Result Reply ClientFault) (stream : Stream F) (faults faults' : F)
    (status : ℕ) : Type 0 where
  pub why : Failure
  pub ended : EndedBy answer why
  pub status_is : status ≡ failure_status why
  pub said : IsSaid stream faults faults' (failure_line why)

-- What the status says of an answer: 0 its result was printed; 1 it has none, which is said; 3 a device failed; 4
-- memory was refused, each of which is said. But for 0, and for 3 where a write failed, nothing was printed. What ended
-- the exchange, if something did, is what the status says.
pub record AnswerEnds {O F : Type 0} (w : Wanted) (answer : Result Reply ClientFault) (taken : O → Option (List ℕ))
    (lost : O → Option ℕ) (stream : Stream F) (output output' : O) (faults faults' : F) (status : ℕ) : Type 0 where
  pub known : (status ≤ 1) ⊎ ((status ≡ 3) ⊎ (status ≡ 4))
  pub printed : status ≡ 0 → Printed w answer (taken output) (taken output')
  pub unlost : status ≡ 0 → Counts 0 (lost output) (lost output')
  pub silent : status ≡ 0 → faults' ≡ faults
  pub said : status ≡ 1 → Said w answer stream faults faults'
  pub unprinted : status ≡ 1 → output' ≡ output
  pub device : status ≡ 3 → DeviceFails w answer (output' ≡ output) (taken output) (taken output')
      (lost output) (lost output')
  pub wanting : status ≡ 4 → output' ≡ output
  pub told : 3 ≤ status → FailureSaid answer stream faults faults' status
  pub failed : (f : Failure) → failure_of answer ≡ Some f → status ≡ failure_status f

-- The call was made over a connection, and this is what was written, read and printed.
pub record CallEnds {I W O F : Type 0} (asked : Asked) (line : Line I W O) (stream : Stream F) (reader reader' : I)
    (writer writer' : W) (output output' : O) (faults faults' : F) (status : ℕ) : Type 0 where
  pub answer : Result Reply ClientFault
  pub wrote : Wrote (call (call_view asked.call)) (line.sent writer) (line.sent writer') answer
  pub exchanged : Exchanged asked.call.xid (line.left reader) (line.left reader') answer
  pub exact : IsExact asked.call.xid (line.left reader) answer
  pub unread : Counts (read_failures answer) (line.unread reader) (line.unread reader')
  pub many : answer ≡ Err fault.TooManyReads → Counts MOST_READS (line.reads reader) (line.reads reader')
  pub few_reads : CountsAtMost MOST_READS (line.reads reader) (line.reads reader')
  pub unsent : Counts (write_failures answer) (line.unsent writer) (line.unsent writer')
  pub ends : AnswerEnds (wanted_of asked) answer line.taken line.lost stream output output' faults faults' status

-- The call was made by datagrams, sent so many times at most, and this is what was sent, received and printed.
pub record DatagramCallEnds {P O F : Type 0} (asked : Asked) (times : ℕ) (desk : Desk P O) (stream : Stream F)
    (port port' : P) (output output' : O) (faults faults' : F) (status : ℕ) : Type 0 where
  pub answer : Result Reply ClientFault
  pub asks : AsksByDatagrams desk.reports asked.call.xid (call (call_view asked.call)) times port port' answer
  pub ends : AnswerEnds (wanted_of asked) answer desk.taken desk.lost stream output output' faults faults' status

-- ---- a step between the code and what its public contract says

-- what printing a text did, by the status
pub record Prints {O F : Type 0} (text : List ℕ) (taken : O → Option (List ℕ)) (lost : O → Option ℕ)
    (stream : Stream F) (output output' : O) (faults faults' : F) (status : ℕ) : Type 0 where
  pub known : (status ≡ 0) ⊎ (status ≡ 3)
  pub written : status ≡ 0 → Appends (taken output) (taken output') text
  pub unlost : status ≡ 0 → Counts 0 (lost output) (lost output')
  pub silent : status ≡ 0 → faults' ≡ faults
  pub cut : status ≡ 3 → InPart text (taken output) (taken output')
  pub failed : status ≡ 3 → Counts 1 (lost output) (lost output')
  pub told : status ≡ 3 → IsSaid stream faults faults' (failure_line failure.Write)
