-- Datagrams that were answered one after another, and their lines.
use Rattle.std.specs.Prelude.{◌≡◌, ℕ, ◌==◌, List, [], ◌∷◌, ◌++◌, codes, decimal, Option, Result, Ok, Err, if◌then◌else◌}
use Rattle.xdr_io.specs.Reported.{Counts}
use Rattle.registry_rows.specs.Rows.{Row}
use Rattle.rpc_engine.specs.declared.fault.DatagramFault.{DatagramFault}
use Rattle.rpc_engine.specs.declared.fault.DatagramFault.TheVariants as fault
use Rattle.rpc_engine.specs.declared.fault.Served.{Served}
use Rattle.rpc_engine.specs.Datagrams.{ServesDatagrams, StopsDatagrams, receives_failed, sends_failed}
use Rattle.rpc_engine.specs.Ports.{Reported}
use Rattle.oncrpc_service.specs.Written.{numbered}

-- how a datagram ended: what was counted, or what the port failed in
abbrev pub Ended : Type 0
Ended = Result Served DatagramFault

-- What a port tells: the datagrams that are left and those that were sent, and the receives and sends that failed.
pub record Reporting : Type 0 where
  pub left : Reported
  pub sent : Reported
  pub unreceived : Option ℕ
  pub unsent : Option ℕ

-- The next datagram was received and answered over UDP from these rows, or the port failed.
abbrev pub Finishes : (rows new : List Row) → (old now : Reporting) → Ended → Type 0
Finishes rows new old now (Ok served) =
    ServesDatagrams 1 rows new old.left now.left old.sent now.sent served
    × Counts 0 old.unreceived now.unreceived × Counts 0 old.unsent now.unsent
Finishes rows new old now (Err f) =
    StopsDatagrams 1 rows new old.left now.left old.sent now.sent f
    × Counts (receives_failed f) old.unreceived now.unreceived × Counts (sends_failed f) old.unsent now.unsent

-- Datagrams were answered one after another, each from the rows that the one before left, whatever became of that.
abbrev pub FinishesEach : (rows : List Row) → (old : Reporting) → List Ended → (new : List Row)
    → (now : Reporting) → Type 0
FinishesEach rows old [] new now = (new ≡ rows) × (now ≡ old)
FinishesEach rows old (e ∷ es) new now =
    (mid : List Row) × ((next : Reporting) × (Finishes rows mid old next e × FinishesEach mid next es new now))

-- the line of the datagram with this number: whether a reply was sent, or the fault's name
abbrev pub datagram_line : (number : ℕ) → Ended → List ℕ
datagram_line number (Ok served) =
    if served.replies == 0 then codes "datagram " ++ decimal number ++ codes ": no reply\n"
    else codes "datagram " ++ decimal number ++ codes ": reply\n"
datagram_line number (Err (fault.Read done)) = codes "datagram " ++ decimal number ++ codes ": Read\n"
datagram_line number (Err (fault.Write done)) = codes "datagram " ++ decimal number ++ codes ": Write\n"

-- the lines of datagrams, the first with number 1
abbrev pub datagram_lines : List Ended → List ℕ
datagram_lines es = numbered datagram_line 1 es
