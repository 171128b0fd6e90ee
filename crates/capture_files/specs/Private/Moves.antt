-- Where the fields of a reader go: steps between the code and what the public contracts say, and none of them names
-- any.
use Rattle.std.specs.Prelude.{◌≡◌, ◌≢◌, ℕ, ◌+◌, ◌<◌, ◌⊎◌, List, [], ◌∷◌, ◌++◌, length}
use Rattle.capture_files.specs.declared.captured.Found.{Found}
use Rattle.capture_files.specs.declared.captured.Interface.{Interface}
use Rattle.capture_files.specs.declared.fault.CaptureFault.{CaptureFault}
use Rattle.capture_files.specs.declared.place.Place.{Place}
use Rattle.capture_files.specs.declared.place.Step.{Step}
use Rattle.capture_files.specs.declared.place.Step.TheVariants.{Need, Moved, Section, Described, Packet, Refused}
use Rattle.capture_files.specs.declared.progress.Progress.{Progress}
use Rattle.capture_files.specs.declared.progress.Progress.TheVariants.{Gathering, Waiting, Broken}
use Rattle.capture_files.specs.declared.reader.CaptureReader.{CaptureReader}
use Rattle.capture_files.specs.declared.reason.CaptureReason.{CaptureReason}
use Rattle.capture_files.specs.declared.reason.CaptureReason.TheVariants.{NoMemory, Truncated}
use Rattle.capture_files.specs.Faults.{IsRefused}
use Rattle.capture_files.specs.Represents.{state_of, waits_at, Represents}
use Rattle.capture_files.specs.Runs.{PacketView, least_unit, Asks, Front, MayEnd, capped}

-- a unit begins at this place of the file
pub record Enters (new : CaptureReader) (place : Place) (interfaces : List Interface) (at : ℕ) : Type 0 where
  pub place_is : new.place ≡ place
  pub interfaces_are : new.interfaces.items ≡ interfaces
  pub empty : new.unit.items ≡ []
  pub need_is : new.need ≡ least_unit
  pub at_is : new.at ≡ at
  pub open_is : new.progress ≡ Gathering

-- a fault with this reason and place is answered from now on
pub record Breaks (new : CaptureReader) (reason : CaptureReason) (at : ℕ) : Type 0 where
  pub fault : CaptureFault
  pub broken : new.progress ≡ Broken fault
  pub reason_is : fault.reason ≡ reason
  pub at_is : fault.at ≡ at

-- the unit at work goes on
pub record Keeps (old new : CaptureReader) (unit : List ℕ) (n : ℕ) : Type 0 where
  pub place_is : new.place ≡ old.place
  pub interfaces_are : new.interfaces.items ≡ old.interfaces.items
  pub unit_is : new.unit.items ≡ unit
  pub need_is : new.need ≡ n
  pub at_is : new.at ≡ old.at
  pub open_is : new.progress ≡ Gathering

-- the unit has a packet, which waits
pub record GoesWaiting (old new : CaptureReader) (unit : List ℕ) (place : Place) (found : Found) : Type 0 where
  pub place_is : new.place ≡ place
  pub interfaces_are : new.interfaces.items ≡ old.interfaces.items
  pub unit_is : new.unit.items ≡ unit
  pub waits : new.progress ≡ Waiting found
  pub at_is : new.at ≡ old.at

-- the section has one more interface, unless memory is refused
abbrev pub Describes : CaptureReader → Place → List Interface → (at behind : ℕ) → Type 0
Describes new place interfaces at behind = Enters new place interfaces behind ⊎ Breaks new NoMemory at

-- what a step makes of a reader
abbrev pub Goes : CaptureReader → CaptureReader → List ℕ → Step → Type 0
Goes old new unit (Need n) = Keeps old new unit n
Goes old new unit (Moved place) = Enters new place old.interfaces.items (capped (old.at + length unit))
Goes old new unit (Section place) = Enters new place [] (capped (old.at + length unit))
Goes old new unit (Described place interface) =
    Describes new place (old.interfaces.items ++ interface ∷ []) old.at (capped (old.at + length unit))
Goes old new unit (Packet place found) = GoesWaiting old new unit place found
Goes old new unit (Refused reason) = Breaks new reason old.at

-- what the reader stands for behind a unit, or behind the front of one that asked for so many bytes
abbrev pub Looks : CaptureReader → CaptureReader → List ℕ → Type 0
Looks old new unit = (whole : List ℕ) (ps : List PacketView) (asked : List ℕ) → Front whole ps (state_of old)
    → Asks (state_of old) least_unit asked old.need unit → old.at ≡ capped (length whole)
    → Represents new (whole ++ unit) (ps ++ waits_at new.progress new.unit.items)

-- no unit has begun, where the file may end
pub record IsBetween (r : CaptureReader) : Type 0 where
  pub empty : r.unit.items ≡ []
  pub may_end : MayEnd r.place

-- a unit has begun, or the file may not end
abbrev pub IsInside : CaptureReader → Type 0
IsInside r = MayEnd r.place → 0 < length r.unit.items

-- no packet waits
abbrev pub IsSettled : Progress → Type 0
IsSettled (Waiting found) = ⊥
IsSettled _ = Unit {0}

-- no fault says that the file is cut
abbrev pub IsUncut : Progress → Type 0
IsUncut (Broken fault) = fault.reason ≢ Truncated
IsUncut _ = Unit {0}

-- the packet that waited is let go, and nothing else changes
pub record LetsGo (old new : CaptureReader) : Type 0 where
  pub settled : IsSettled new.progress
  pub still : (fault : CaptureFault) → IsRefused old fault → IsRefused new fault
  pub before : (fault : CaptureFault) → IsRefused new fault → IsRefused old fault
  pub represents : (bytes : List ℕ) (ps : List PacketView) → Represents old bytes ps → Represents new bytes ps
