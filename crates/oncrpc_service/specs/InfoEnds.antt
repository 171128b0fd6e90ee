-- How asking a registry for its rows ends.
use Rattle.std.specs.Prelude.{◌≡◌, ◌⊎◌, ℕ, ◌≤◌, List, Option, Some, Result, Err}
use Rattle.std.specs.Io.KnownBytes.{Appends}
use Rattle.xdr_io.specs.Reported.{Counts, CountsAtMost}
use Rattle.xdr_io.specs.declared.input.TheConstants.{MOST_READS}
use Rattle.rpc_message.specs.declared.message.Reply.{Reply}
use Rattle.rpc_message.specs.Spelling.{call}
use Rattle.rpc_engine.specs.declared.fault.ClientFault.{ClientFault}
use Rattle.rpc_engine.specs.declared.fault.ClientFault.TheVariants as fault
use Rattle.rpc_engine.specs.DatagramExchange.{ExchangesDatagram}
use Rattle.rpc_engine.specs.Exchanged.{Exchanged, Wrote, read_failures, write_failures}
use Rattle.oncrpc_answers.specs.declared.failure.Failure.{Failure}
use Rattle.oncrpc_service.specs.DatagramEnds.{Desk}
use Rattle.oncrpc_service.specs.Infos.{Reports, dump_call, failure_of}
use Rattle.oncrpc_service.specs.Written.{InPart}

-- What a connection and a writer tell: what is left to be read and what was sent, the reads, and what failed.
pub record Line (I W O : Type 0) : Type 0 where
  pub left : I → Option (List ℕ)
  pub reads : I → Option ℕ
  pub unread : I → Option ℕ
  pub sent : W → Option (List ℕ)
  pub unsent : W → Option ℕ
  pub taken : O → Option (List ℕ)
  pub lost : O → Option ℕ

-- The beginning of what an answer says was printed, and not all of it.
pub record ReportsInPart (vers : ℕ) (answer : Result Reply ClientFault) (taken taken' : Option (List ℕ)) : Type 0 where
  pub ended : ℕ
  pub text : List ℕ
  pub reports : Reports vers answer ended text
  pub begun : InPart text taken taken'

-- What a device did: the exchange met it and nothing was printed, or the output failed under what the answer says.
abbrev pub DeviceFails : (vers : ℕ) → Result Reply ClientFault → (unprinted : Type 0)
    → (taken taken' : Option (List ℕ)) → (lost lost' : Option ℕ) → Type 0
DeviceFails vers answer unprinted taken taken' lost lost' =
    (((f : Failure) × (failure_of answer ≡ Some f)) × unprinted)
    ⊎ (ReportsInPart vers answer taken taken' × Counts 1 lost lost')

-- What an answer says was printed, and this is what the status says of the output and of the writer for faults.
pub record AnswerEnds {O F : Type 0} (vers : ℕ) (answer : Result Reply ClientFault) (taken : O → Option (List ℕ))
    (lost : O → Option ℕ) (output output' : O) (faults faults' : F) (status : ℕ) : Type 0 where
  pub known : (status ≤ 1) ⊎ ((status ≡ 3) ⊎ (status ≡ 4))
  pub printed : status ≤ 1 → (text : List ℕ) × Reports vers answer status text
      × Appends (taken output) (taken output') text
  pub unlost : status ≤ 1 → Counts 0 (lost output) (lost output')
  pub silent : status ≤ 1 → faults' ≡ faults
  pub device : status ≡ 3 → DeviceFails vers answer (output' ≡ output) (taken output) (taken output')
      (lost output) (lost output')
  pub wanting : status ≡ 4 → output' ≡ output

-- The rows were asked for over a connection, and this is what was written, read and printed.
pub record InfoEnds {I W O F : Type 0} (vers : ℕ) (line : Line I W O) (reader reader' : I) (writer writer' : W)
    (output output' : O) (faults faults' : F) (status : ℕ) : Type 0 where
  pub answer : Result Reply ClientFault
  pub wrote : Wrote (call (dump_call vers)) (line.sent writer) (line.sent writer') answer
  pub exchanged : Exchanged 1 (line.left reader) (line.left reader') answer
  pub unread : Counts (read_failures answer) (line.unread reader) (line.unread reader')
  pub many : answer ≡ Err fault.TooManyReads → Counts MOST_READS (line.reads reader) (line.reads reader')
  pub few_reads : CountsAtMost MOST_READS (line.reads reader) (line.reads reader')
  pub unsent : Counts (write_failures answer) (line.unsent writer) (line.unsent writer')
  pub ends : AnswerEnds vers answer line.taken line.lost output output' faults faults' status

-- The rows were asked for by a datagram, and this is what was sent, received and printed.
pub record DatagramInfoEnds {P O F : Type 0} (vers : ℕ) (desk : Desk P O) (port port' : P)
    (output output' : O) (faults faults' : F) (status : ℕ) : Type 0 where
  pub answer : Result Reply ClientFault
  pub exchanged : ExchangesDatagram 1 (call (dump_call vers)) (desk.reports port).left (desk.reports port').left
      (desk.reports port).sent (desk.reports port').sent answer
  pub unreceived : Counts (read_failures answer) (desk.reports port).unreceived (desk.reports port').unreceived
  pub unsent : Counts (write_failures answer) (desk.reports port).unsent (desk.reports port').unsent
  pub ends : AnswerEnds vers answer desk.taken desk.lost output output' faults faults' status
