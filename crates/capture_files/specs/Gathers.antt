-- What a reader needs to know of a step to gather a unit.
use Rattle.std.specs.Prelude.{ℕ, ◌+◌, ◌<◌, ◌≤◌, List, length}
use Rattle.capture_files.specs.declared.place.Step.{Step}
use Rattle.capture_files.specs.declared.place.Step.TheVariants.{Need, Packet, Refused}
use Rattle.capture_files.specs.declared.reason.CaptureReason.{CaptureReason}
use Rattle.capture_files.specs.declared.reason.CaptureReason.TheVariants.{Truncated, NoMemory}
use Rattle.capture_files.specs.Limits.{most_unit}

-- a reason that bytes give, and not the end of a file or the want of memory
abbrev pub TellsOfBytes : CaptureReason → Type 0
TellsOfBytes Truncated = ⊥
TellsOfBytes NoMemory = ⊥
TellsOfBytes _ = Unit {0}

-- More bytes are needed than are there, and no more than a unit has at most; a packet lies in the bytes.
abbrev pub Gathers : List ℕ → Step → Type 0
Gathers bytes (Need n) = (length bytes < n) × (n ≤ most_unit)
Gathers bytes (Packet place found) = found.from + found.size ≤ length bytes
Gathers bytes (Refused reason) = TellsOfBytes reason
Gathers bytes _ = Unit {0}
