-- Bytes of a block that are passed over, and its end (draft-ietf-opsawg-pcapng section 3.1).
use Rattle.std.specs.Prelude.{ℕ, ◌-◌, List, length, not, min, nat_lt, ◌==◌, if◌then◌else◌, Option, Some, None}
use Rattle.capture_files.specs.declared.captured.Interface.{Interface}
use Rattle.capture_files.specs.declared.numbers.Order.{Order}
use Rattle.capture_files.specs.declared.place.Place.TheVariants.{Block, Passing}
use Rattle.capture_files.specs.declared.place.Step.{Step}
use Rattle.capture_files.specs.declared.place.Step.TheVariants.{Need, Moved, Described, Refused}
use Rattle.capture_files.specs.declared.reason.CaptureReason.TheVariants.{BadLength}
use Rattle.capture_files.specs.Numbers.{word_at}

-- behind a block, with the interface that it describes
abbrev pub behind_block : Order → Option Interface → Step
behind_block order (Some interface) = Described (Block order) interface
behind_block order None = Moved (Block order)

-- a block ends with its length once more
unfoldable pub end_step : Order → Option Interface → ℕ → List ℕ → Step
end_step order interface total bytes =
    if nat_lt (length bytes) 4 then Need 4
    else (if not (word_at order 0 bytes == total) then Refused BadLength else behind_block order interface)

-- any bytes, as many as there are, but no more than are left
unfoldable pub passing_step : Order → Option Interface → ℕ → ℕ → List ℕ → Step
passing_step order interface left total bytes =
    if length bytes == 0 then Need 1 else Moved (Passing order interface (left - min (length bytes) left) total)
