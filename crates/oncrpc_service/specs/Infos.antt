-- What is printed of a registry's answer.
use Rattle.std.specs.Prelude.{◌≡◌, ◌≢◌, ℕ, ◌≤◌, ◌==◌, List, [], ◌++◌, flat_map, codes, decimal, Option, None, Some}
use Rattle.std.specs.Prelude.{Result, Ok, Err, length, if◌then◌else◌}
use Rattle.xdr_types.specs.Tree.{Tree}
use Rattle.xdr_types.specs.Spelling.{bytes_of}
use Rattle.xdr_types.specs.Within.{FitsWithin}
use Rattle.xdr_stream.specs.declared.fault.DecodeFault.{DecodeFault}
use Rattle.xdr_stream.specs.declared.fault.Reason.TheVariants as reason
use Rattle.xdr_stream.specs.Finish.{EndsWith}
use Rattle.xdr_codec.specs.Refused.{HasNoneWithin, IsRefused}
use Rattle.rpc_record.specs.declared.fault.RecordFault.{RecordFault}
use Rattle.rpc_record.specs.declared.fault.RecordFault.TheVariants as flaw
use Rattle.rpc_message.specs.declared.message.Reply.{Reply}
use Rattle.rpc_message.specs.declared.fault.ReplyFault.{ReplyFault}
use Rattle.rpc_message.specs.declared.fault.ReplyFault.TheVariants as why
use Rattle.rpc_message.specs.Message.{CallView, ReplyView, StatusView, WhyView, Accepted, Denied, Success, ProgUnavail}
use Rattle.rpc_message.specs.Message.{ProgMismatch, ProcUnavail, GarbageArgs, SystemErr, RpcMismatch, AuthError}
use Rattle.rpc_message.specs.View.{reply_view}
use Rattle.registry_rows.specs.Program.{program}
use Rattle.registry_rows.specs.Rows.{Row}
use Rattle.registry_dumps.specs.Dir.{dir_kinds}
use Rattle.registry_dumps.specs.Dumps.{dump_limits, rpcb_list}
use Rattle.rpc_engine.specs.declared.fault.ClientFault.{ClientFault}
use Rattle.rpc_engine.specs.declared.fault.ClientFault.TheVariants as fault
use Rattle.oncrpc_answers.specs.declared.answer.Answer.TheVariants as answer
use Rattle.oncrpc_answers.specs.declared.failure.Failure.{Failure}
use Rattle.oncrpc_answers.specs.declared.failure.Failure.TheVariants as failure
use Rattle.oncrpc_answers.specs.Lines.{line}
use Rattle.oncrpc_service.specs.Rows.{Mapping, pmap_list, header, row_line, mapping_line}

-- the call for all rows: procedure DUMP of its program, by nobody (RFC 1833 sections 2.2.1 and 3.2)
abbrev pub dump_call : (vers : ℕ) → CallView
dump_call vers = record {
  xid = 1;
  prog = program;
  vers = vers;
  proc = 4;
  cred = record { flavor = 0; body = [] };
  verf = record { flavor = 0; body = [] };
  args = [];
}

-- the place of the kind of the rows: `pmaplist` or `rpcblist`
abbrev pub list_place : (vers : ℕ) → ℕ
list_place vers = if vers == 2 then 18 else 14

-- the bytes begin with this value of the kind, within the limits of a dump
abbrev pub BeginsWith : (kind : ℕ) → List ℕ → Tree → Type 0
BeginsWith kind bytes t =
    FitsWithin dir_kinds kind dump_limits t × ((rest : List ℕ) × (bytes ≡ bytes_of dir_kinds kind t ++ rest))

-- The status and the text of results: a header and a line for each row with which they begin, or why they begin with
-- none. That is told by the reason and the place of their outcome as the kind of the rows.
pub data ReportsRows (vers : ℕ) (results : List ℕ) : (status : ℕ) → (text : List ℕ) → Type 0 where
  rows : (rs : List Row) → vers ≢ 2 → BeginsWith 14 results (rpcb_list rs)
      → ReportsRows vers results 0 (header vers ++ flat_map row_line rs)
  mappings : (ms : List Mapping) → vers ≡ 2 → BeginsWith 18 results (pmap_list ms)
      → ReportsRows vers results 0 (header vers ++ flat_map mapping_line ms)
  refused : (f : DecodeFault) → f.why ≢ reason.NoMemory
      → EndsWith dir_kinds (list_place vers) dump_limits results f
      → IsRefused (HasNoneWithin dir_kinds (list_place vers) dump_limits) f.why results → f.at ≤ length results
      → (f.why ≡ reason.Truncated → f.at ≡ length results)
      → ReportsRows vers results 1 (line (answer.Refused f))

-- the line of a status without results: its name with its numbers (RFC 5531 section 9)
abbrev pub status_line : StatusView → List ℕ
status_line (Success results) = codes "refused SUCCESS\n"
status_line ProgUnavail = codes "refused PROG_UNAVAIL\n"
status_line (ProgMismatch low high) =
    codes "refused PROG_MISMATCH " ++ decimal low ++ codes " " ++ decimal high ++ codes "\n"
status_line ProcUnavail = codes "refused PROC_UNAVAIL\n"
status_line GarbageArgs = codes "refused GARBAGE_ARGS\n"
status_line SystemErr = codes "refused SYSTEM_ERR\n"

-- the line of what denies a call: its name with its numbers (RFC 5531 section 9)
abbrev pub denied_line : WhyView → List ℕ
denied_line (RpcMismatch low high) =
    codes "refused RPC_MISMATCH " ++ decimal low ++ codes " " ++ decimal high ++ codes "\n"
denied_line (AuthError stat) = codes "refused AUTH_ERROR " ++ decimal stat ++ codes "\n"

-- what is printed of what an accepted call came to
abbrev pub ReportsStatus : (vers : ℕ) → StatusView → (status : ℕ) → (text : List ℕ) → Type 0
ReportsStatus vers (Success results) status text = ReportsRows vers results status text
ReportsStatus vers s status text = (status ≡ 1) × (text ≡ status_line s)

-- what is printed of a reply
abbrev pub ReportsReply : (vers : ℕ) → ReplyView → (status : ℕ) → (text : List ℕ) → Type 0
ReportsReply vers (Accepted xid verf s) status text = ReportsStatus vers s status text
ReportsReply vers (Denied xid w) status text = (status ≡ 1) × (text ≡ denied_line w)

-- the name of why bytes are no reply
abbrev pub reply_fault_name : ReplyFault → List ℕ
reply_fault_name why.Truncated = codes "Truncated"
reply_fault_name why.NotAReply = codes "NotAReply"
reply_fault_name why.BadStatus = codes "BadStatus"
reply_fault_name why.BadAuth = codes "BadAuth"
reply_fault_name why.Rest = codes "Rest"
reply_fault_name why.NoMemory = codes "NoMemory"

-- the line of why there is no record; the other faults are of devices and of memory
abbrev pub record_line : RecordFault → Option (List ℕ)
record_line (flaw.TooLong at) = Some (codes "refused TooLong at " ++ decimal at ++ codes "\n")
record_line (flaw.Truncated at) = Some (codes "refused Truncated at " ++ decimal at ++ codes "\n")
record_line _ = None

-- the line of bytes that are no reply to the call; a device that failed and an allocation failure have a line elsewhere
abbrev pub fault_line : ClientFault → Option (List ℕ)
fault_line (fault.Record f) = record_line f
fault_line (fault.Reply f) = Some (codes "refused " ++ reply_fault_name f ++ codes "\n")
fault_line (fault.WrongXid got) = Some (codes "refused WrongXid " ++ decimal got ++ codes "\n")
fault_line _ = None

-- the text is this line, where there is one
abbrev pub IsLine : Option (List ℕ) → (text : List ℕ) → Type 0
IsLine None text = ⊥
IsLine (Some line) text = text ≡ line

-- the status and the text of a registry's answer
abbrev pub Reports : (vers : ℕ) → Result Reply ClientFault → (status : ℕ) → (text : List ℕ) → Type 0
Reports vers (Ok reply) status text = ReportsReply vers (reply_view reply) status text
Reports vers (Err f) status text = (status ≡ 1) × IsLine (fault_line f) text

-- what a device or memory did to an exchange, which then has no answer to print
abbrev pub failure_of_record : RecordFault → Option Failure
failure_of_record flaw.Read = Some failure.Read
failure_of_record (flaw.Write written) = Some failure.Write
failure_of_record flaw.TooManyReads = Some failure.TooManyReads
failure_of_record flaw.NoMemory = Some failure.NoMemory
failure_of_record _ = None

abbrev pub failure_of_fault : ClientFault → Option Failure
failure_of_fault (fault.Record f) = failure_of_record f
failure_of_fault fault.Read = Some failure.Read
failure_of_fault (fault.Write written) = Some failure.Write
failure_of_fault fault.TooManyReads = Some failure.TooManyReads
failure_of_fault fault.NoMemory = Some failure.NoMemory
failure_of_fault _ = None

abbrev pub failure_of : Result Reply ClientFault → Option Failure
failure_of (Ok reply) = None
failure_of (Err f) = failure_of_fault f
