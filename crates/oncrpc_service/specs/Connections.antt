-- Connections that were served one after another, and their lines.
use Rattle.std.specs.Prelude.{◌≡◌, ℕ, List, [], ◌∷◌, ◌++◌, codes, decimal, Option, Result, Ok, Err}
use Rattle.rpc_record.specs.declared.fault.RecordFault.{RecordFault}
use Rattle.rpc_record.specs.declared.fault.RecordFault.TheVariants as flaw
use Rattle.registry_rows.specs.Rows.{Row}
use Rattle.registry_rows.specs.Ports.{tcp}
use Rattle.rpc_engine.specs.declared.fault.ServeFault.{ServeFault}
use Rattle.rpc_engine.specs.declared.fault.ServeFault.TheVariants as fault
use Rattle.rpc_engine.specs.declared.fault.Served.{Served}
use Rattle.rpc_engine.specs.Served.{Serves, Stops}
use Rattle.oncrpc_service.specs.Listening.{Clients, Arrives, IsFresh, Leaves}
use Rattle.oncrpc_service.specs.Written.{numbered}

-- how a connection ended: what was counted, or what was wrong with it
abbrev pub Outcome : Type 0
Outcome = Result Served ServeFault

-- The records of a client were answered from these rows over `tcp`, up to where the connection ended.
abbrev pub Answers : (rows new : List Row) → (left left' taken taken' : Option (List ℕ)) → Outcome → Type 0
Answers rows new left left' taken taken' (Ok served) = Serves tcp rows new left left' taken taken' served
Answers rows new left left' taken taken' (Err f) = Stops tcp rows new left left' taken taken' f

-- The next connection was served: what the client sent was answered, and nothing went to the client before the replies
-- or after them. A writer to a client tells by `went` what went there.
pub record ServesNext {W : Type 0} (went : W → Option (List ℕ)) (rows new : List Row) (clients clients' : Clients)
    (o : Outcome) : Type 0 where
  pub left : Option (List ℕ)
  pub left' : Option (List ℕ)
  pub writer : W
  pub writer' : W
  pub arrived : Arrives clients.waiting clients'.waiting left
  pub fresh : IsFresh clients.sent (went writer)
  pub answered : Answers rows new left left' (went writer) (went writer') o
  pub ended : Leaves clients.sent clients'.sent (went writer')

-- Connections were served one after another, each from the rows that the one before left.
abbrev pub ServesEach : {W : Type 0} → (went : W → Option (List ℕ)) → (rows : List Row) → (clients : Clients)
    → List Outcome → (new : List Row) → (clients' : Clients) → Type 0
ServesEach went rows clients [] new clients' = (new ≡ rows) × (clients' ≡ clients)
ServesEach went rows clients (o ∷ os) new clients' = (mid : List Row) × ((next : Clients)
    × (ServesNext went rows mid clients next o × ServesEach went mid next os new clients'))

-- the line of a connection that a fault of its stream of records ended: the fault's name and its place
abbrev pub record_line : (number : ℕ) → RecordFault → List ℕ
record_line number (flaw.TooLong at) =
    codes "connection " ++ decimal number ++ codes ": TooLong at " ++ decimal at ++ codes "\n"
record_line number (flaw.Truncated at) =
    codes "connection " ++ decimal number ++ codes ": Truncated at " ++ decimal at ++ codes "\n"
record_line number flaw.Read = codes "connection " ++ decimal number ++ codes ": Read\n"
record_line number (flaw.Write written) = codes "connection " ++ decimal number ++ codes ": Write\n"
record_line number flaw.TooManyReads = codes "connection " ++ decimal number ++ codes ": TooManyReads\n"
record_line number flaw.NoMemory = codes "connection " ++ decimal number ++ codes ": NoMemory\n"

-- the line of the connection with this number: what was counted, or the fault's name
abbrev pub connection_line : (number : ℕ) → Outcome → List ℕ
connection_line number (Ok served) = codes "connection " ++ decimal number ++ codes ": " ++ decimal served.records
    ++ codes " records, " ++ decimal served.replies ++ codes " replies\n"
connection_line number (Err (fault.Record f)) = record_line number f
connection_line number (Err fault.Read) = codes "connection " ++ decimal number ++ codes ": Read\n"
connection_line number (Err (fault.Write written)) = codes "connection " ++ decimal number ++ codes ": Write\n"
connection_line number (Err fault.TooManyReads) = codes "connection " ++ decimal number ++ codes ": TooManyReads\n"
connection_line number (Err fault.NoMemory) = codes "connection " ++ decimal number ++ codes ": NoMemory\n"

-- the lines of connections, the first with this number
abbrev pub connection_lines : (number : ℕ) → List Outcome → List ℕ
connection_lines number os = numbered connection_line number os

-- the line before the first connection
abbrev pub listening_line : (port : ℕ) → List ℕ
listening_line port = codes "listening on 127.0.0.1 " ++ decimal port ++ codes "\n"

-- all that is printed
abbrev pub printed : (port : ℕ) → List Outcome → List ℕ
printed port os = listening_line port ++ connection_lines 1 os
