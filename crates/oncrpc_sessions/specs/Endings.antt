-- The line of a connection that has ended, of `serve --verbose`, and why it ended (this project's own).
use Rattle.std.specs.Prelude.{ℕ, ◌+◌, List, ◌++◌, codes, decimal}
use Rattle.std.specs.Net.Text.{socket_text}
use Rattle.rpc_record.specs.declared.fault.RecordFault.TheVariants as fault
use Rattle.registry_sessions.specs.declared.fault.SessionFault.{SessionFault}
use Rattle.registry_sessions.specs.declared.fault.SessionFault.TheVariants as session
use Rattle.oncrpc_sessions.specs.declared.ending.Ending.{Ending}
use Rattle.oncrpc_sessions.specs.declared.ending.Why.{Why}
use Rattle.oncrpc_sessions.specs.declared.ending.Why.TheVariants as why
use Rattle.oncrpc_sessions.specs.declared.whence.Whence.{Whence}
use Rattle.oncrpc_sessions.specs.declared.whence.Whence.TheVariants as whence

-- where it came from: an address and a port, or this host's Unix socket (own)
abbrev pub whence_text : Whence → List ℕ
whence_text (whence.Address peer) = socket_text peer
whence_text whence.Local = codes "local"

-- which connection it is, counted from 1, and where it came from (own)
abbrev pub connection_text : (number : ℕ) → Whence → List ℕ
connection_text number w =
    codes "connection " ++ decimal (number + 1) ++ codes " from " ++ whence_text w ++ codes ": "

-- what became of it: how many records and replies there were, or why it ended (own)
abbrev pub outcome_text : (records replies : ℕ) → Why → List ℕ
outcome_text records replies why.Done = decimal records ++ codes " records, " ++ decimal replies ++ codes " replies\n"
outcome_text records replies why.Idle = codes "Idle\n"
outcome_text records replies (why.Fault (fault.TooLong at)) = codes "TooLong at " ++ decimal at ++ codes "\n"
outcome_text records replies (why.Fault (fault.Truncated at)) = codes "Truncated at " ++ decimal at ++ codes "\n"
outcome_text records replies (why.Fault fault.Read) = codes "Read\n"
outcome_text records replies (why.Fault (fault.Write written)) = codes "Write\n"
outcome_text records replies (why.Fault fault.TooManyReads) = codes "TooManyReads\n"
outcome_text records replies (why.Fault fault.NoMemory) = codes "NoMemory\n"

-- the whole line (own)
abbrev pub ending_line : Ending → List ℕ
ending_line e = connection_text e.number e.whence ++ outcome_text e.records e.replies e.why

-- why a connection ended whose session has a fault (own)
abbrev pub why_of : SessionFault → Why
why_of (session.Record f) = why.Fault f
why_of session.NoMemory = why.Fault fault.NoMemory
