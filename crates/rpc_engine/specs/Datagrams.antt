-- What serving datagrams has received, done and sent (RFC 5531 section 9, RFC 1833 sections 2 and 3).
use Rattle.std.specs.Prelude.{◌≡◌, ℕ, ◌<◌, List, [], ◌∷◌, length, Bool, Some}
use Rattle.registry_rows.specs.Rows.{Row}
use Rattle.registry_rows.specs.Ports.{udp}
use Rattle.registry_answer.specs.Answer.{Answer}
use Rattle.rpc_engine.specs.declared.fault.DatagramFault.{DatagramFault}
use Rattle.rpc_engine.specs.declared.fault.DatagramFault.TheVariants as fault
use Rattle.rpc_engine.specs.declared.fault.Served.{Served}
use Rattle.rpc_engine.specs.Counted.{IsServed}
use Rattle.rpc_engine.specs.Ports.{Reported, Receives, Sends}
use Rattle.rpc_engine.specs.Run.{Run}

-- A run of the registry along datagrams: each is answered over UDP, and each reply is a datagram by itself.
abbrev pub DatagramRun : List Row → (datagrams : List (List ℕ)) → (refusals : List Bool) → (new : List Row)
    → (replies : List (List ℕ)) → Type 0
DatagramRun rows datagrams refusals new replies = Run rows udp datagrams refusals new replies

-- These datagrams were received and finished: the rows and what was sent are those of a run along them.
pub record Finishes (rows new : List Row) (left left' sent sent' : Reported) (datagrams replies : List (List ℕ))
    : Type 0 where
  pub refusals : List Bool
  pub received : Receives left left' datagrams
  pub run : DatagramRun rows datagrams refusals new replies
  pub sends : Sends sent sent' replies

-- So many datagrams were received, each was finished, and they and their replies were counted.
pub record ServesDatagrams (count : ℕ) (rows new : List Row) (left left' sent sent' : Reported) (served : Served)
    : Type 0 where
  pub datagrams : List (List ℕ)
  pub replies : List (List ℕ)
  pub all : length datagrams ≡ count
  pub finished : Finishes rows new left left' sent sent' datagrams replies
  pub counted : IsServed served datagrams replies

-- A receive failed where so many datagrams were finished, of which each reply was sent.
pub record NotReceived (count done : ℕ) (rows new : List Row) (left left' sent sent' : Reported) : Type 0 where
  pub datagrams : List (List ℕ)
  pub replies : List (List ℕ)
  pub few : done < count
  pub so_many : length datagrams ≡ done
  pub finished : Finishes rows new left left' sent sent' datagrams replies

-- A send failed where so many datagrams were finished: one more was received and answered, and its reply was not sent.
-- The rows are those after it.
pub record NotSent (count done : ℕ) (rows new : List Row) (left left' sent sent' : Reported) : Type 0 where
  pub datagrams : List (List ℕ)
  pub replies : List (List ℕ)
  pub few : done < count
  pub so_many : length datagrams ≡ done
  pub mid : List Row
  pub waiting : Reported
  pub finished : Finishes rows mid left waiting sent sent' datagrams replies
  pub answering : List ℕ
  pub refused : Bool
  pub unsent : List ℕ
  pub received : Receives waiting left' (answering ∷ [])
  pub answer : Answer mid udp answering refused new (Some unsent)

-- what a fault says of the datagrams before it
abbrev pub StopsDatagrams : (count : ℕ) → List Row → List Row → Reported → Reported → Reported → Reported
    → DatagramFault → Type 0
StopsDatagrams count rows new left left' sent sent' (fault.Read done) =
    NotReceived count done rows new left left' sent sent'
StopsDatagrams count rows new left left' sent sent' (fault.Write done) =
    NotSent count done rows new left left' sent sent'

-- `Read` is one failed receive, and `Write` is none
abbrev pub receives_failed : DatagramFault → ℕ
receives_failed (fault.Read done) = 1
receives_failed (fault.Write done) = 0

-- `Write` is one failed send, and `Read` is none
abbrev pub sends_failed : DatagramFault → ℕ
sends_failed (fault.Read done) = 0
sends_failed (fault.Write done) = 1
