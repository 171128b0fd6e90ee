-- Which bytes and packets a reader's fields stand for.
use Rattle.std.specs.Prelude.{◌≡◌, ℕ, zero, suc, List, [], ◌∷◌, ◌++◌, length, Option, Some, None, Result, Ok, Err}
use Rattle.capture_files.specs.declared.captured.Captured.{Captured}
use Rattle.capture_files.specs.declared.captured.Found.{Found}
use Rattle.capture_files.specs.declared.fault.CaptureFault.{CaptureFault}
use Rattle.capture_files.specs.declared.fault.CaptureStep.{CaptureStep}
use Rattle.capture_files.specs.declared.fault.CaptureStep.TheVariants.{More, Packet}
use Rattle.capture_files.specs.declared.place.Step.TheVariants.{Refused}
use Rattle.capture_files.specs.declared.progress.Progress.{Progress}
use Rattle.capture_files.specs.declared.progress.Progress.TheVariants.{Gathering, Waiting, Broken}
use Rattle.capture_files.specs.declared.reader.CaptureReader.{CaptureReader}
use Rattle.capture_files.specs.declared.reason.CaptureReason.{CaptureReason}
use Rattle.capture_files.specs.declared.reason.CaptureReason.TheVariants.{NoMemory, Truncated}
use Rattle.capture_files.specs.Runs.{PacketView, StateView, packet_in, Front, IsCapture, RefusedAt, CutAt}
use Rattle.capture_files.specs.Runs.{least_unit, Asks, left_of, capped}

-- the packet, without where it stands in the file and in memory
abbrev pub captured_view : Captured → PacketView
captured_view c = record {
  link = c.link;
  time = c.time;
  resolution = c.resolution;
  original = c.original;
  content = c.bytes.now;
}

-- what comes next, and the interfaces of the section
abbrev pub state_of : CaptureReader → StateView
state_of r = record { place = r.place; interfaces = r.interfaces.items }

-- the packet that waits
abbrev pub waiting_at : Progress → List ℕ → Option PacketView
waiting_at (Waiting found) unit = Some (packet_in found unit)
waiting_at _ unit = None

-- the same of a reader
abbrev pub waiting : CaptureReader → Option PacketView
waiting r = waiting_at r.progress r.unit.items

-- the same as a list
abbrev pub waits_at : Progress → List ℕ → List PacketView
waits_at (Waiting found) unit = packet_in found unit ∷ []
waits_at _ unit = []

-- no bytes wait where bytes are passed over
abbrev pub IsIdle : ℕ → List ℕ → Type 0
IsIdle zero unit = Unit {0}
IsIdle (suc left) unit = unit ≡ []

-- The bytes are whole units with these packets, which lead to the state, and at this place bytes of a unit, which needs
-- so many.
pub record Holds (need at : ℕ) (unit : List ℕ) (s : StateView) (bytes : List ℕ) (ps : List PacketView) : Type 0 where
  pub whole : List ℕ
  pub front : Front whole ps s
  pub spelled : bytes ≡ whole ++ unit
  pub asked : List ℕ
  pub asks : Asks s least_unit asked need unit
  pub idle : IsIdle (left_of s.place) unit
  pub place : at ≡ capped (length whole)

-- The bytes are whole units with these packets, which lead to the state, and the last stands at this place.
pub record Waits (at : ℕ) (unit : List ℕ) (s : StateView) (bytes : List ℕ) (ps : List PacketView) : Type 0 where
  pub before : List ℕ
  pub front : Front bytes ps s
  pub spelled : bytes ≡ before ++ unit
  pub place : at ≡ capped (length before)

-- what a fault says of the bytes and their packets
abbrev pub Faulty : CaptureReason → ℕ → List ℕ → List PacketView → Type 0
Faulty NoMemory at bytes ps = Unit {0}
Faulty Truncated at bytes ps = CutAt at bytes ps
Faulty reason at bytes ps = RefusedAt at bytes ps (Refused reason)

-- at each stage: the bytes that were taken, and all their packets, of which the last may wait
abbrev pub RepresentsAt : Progress → (need at : ℕ) → List ℕ → StateView → List ℕ → List PacketView → Type 0
RepresentsAt Gathering need at unit s bytes ps = Holds need at unit s bytes ps
RepresentsAt (Waiting found) need at unit s bytes ps = Waits at unit s bytes ps
RepresentsAt (Broken fault) need at unit s bytes ps = Faulty fault.reason fault.at bytes ps

-- The reader has taken these bytes, and they have these packets, of which the last may wait; or a fault tells of them.
abbrev pub Represents : CaptureReader → List ℕ → List PacketView → Type 0
Represents r bytes ps = RepresentsAt r.progress r.need r.at r.unit.items (state_of r) bytes ps

-- the bytes that are kept: of the unit at work, or of the one whose packet waits
abbrev pub kept_of : CaptureReader → List ℕ
kept_of r = r.unit.items

-- What is kept of the bytes that were taken. While a unit is gathered: what they have behind whole units, with all
-- their packets. While a packet waits: their last unit, which has it. Nothing is said of a file that is refused.
abbrev pub KeptAt : Progress → (kept bytes : List ℕ) → List PacketView → Type 0
KeptAt Gathering kept bytes ps =
    (whole : List ℕ) × (s : StateView) × Front whole ps s × (bytes ≡ whole ++ kept)
KeptAt (Waiting found) kept bytes ps = (before : List ℕ) × (bytes ≡ before ++ kept)
KeptAt (Broken fault) kept bytes ps = Unit {0}

-- the same of a reader, whatever bytes it has taken
abbrev pub Keeps : CaptureReader → Type 0
Keeps r = (bytes : List ℕ) (ps : List PacketView) → Represents r bytes ps → KeptAt r.progress (kept_of r) bytes ps

-- taking bytes brings no packet, or one that waits
abbrev pub Takes : CaptureReader → CaptureReader → List ℕ → Type 0
Takes old new taken = (bytes : List ℕ) (ps : List PacketView) → Represents old bytes ps
    → Represents new (bytes ++ taken) (ps ++ waits_at new.progress new.unit.items)

-- how many bytes of a piece were taken: all, or those up to the end of a packet
abbrev pub used_of : Result CaptureStep CaptureFault → ℕ → ℕ
used_of (Ok (Packet used)) count = used
used_of _ count = count

-- what the answer says of where the reader is
abbrev pub Reports : Result CaptureStep CaptureFault → Progress → Type 0
Reports (Ok More) progress = progress ≡ Gathering
Reports (Ok (Packet used)) progress = (found : Found) × (progress ≡ Waiting found)
Reports (Err fault) progress = progress ≡ Broken fault

-- what the end of a file says of its bytes and packets
abbrev pub Ends : CaptureReader → CaptureReader → Result (Unit {0}) CaptureFault → Type 0
Ends old new (Ok done) = (bytes : List ℕ) (ps : List PacketView) → Represents old bytes ps → IsCapture bytes ps
Ends old new (Err fault) = (new.progress ≡ Broken fault)
    × ((bytes : List ℕ) (ps : List PacketView) → Represents old bytes ps → Represents new bytes ps)
