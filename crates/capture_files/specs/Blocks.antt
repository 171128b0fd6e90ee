-- The block that comes next in a section (draft-ietf-opsawg-pcapng section 3.1).
use Rattle.std.specs.Prelude.{ℕ, ◌-◌, ◌%◌, List, length, not, ◌||◌, nat_lt, ◌==◌, if◌then◌else◌, None}
use Rattle.capture_files.specs.declared.captured.Interface.{Interface}
use Rattle.capture_files.specs.declared.numbers.Order.{Order}
use Rattle.capture_files.specs.declared.place.Place.TheVariants.{Passing}
use Rattle.capture_files.specs.declared.place.Step.{Step}
use Rattle.capture_files.specs.declared.place.Step.TheVariants.{Need, Moved, Refused}
use Rattle.capture_files.specs.declared.reason.CaptureReason.TheVariants.{BadLength}
use Rattle.capture_files.specs.Interfaces.{interface_step}
use Rattle.capture_files.specs.Numbers.{word_at}
use Rattle.capture_files.specs.Packets.{packet_step, simple_step}
use Rattle.capture_files.specs.Sections.{section_step}

-- its length is a multiple of four and at least 12; type 1 describes an interface, 3 has a simple packet and 6 an
-- enhanced one; every other is passed over, as type 2, the obsolete packet block
abbrev pub body_step : Order → ℕ → ℕ → List Interface → List ℕ → Step
body_step order kind total interfaces bytes =
    if not (total % 4 == 0) || nat_lt total 12 then Refused BadLength
    else (if kind == 1 then interface_step order total (length interfaces) bytes
    else (if kind == 3 then simple_step order total interfaces bytes
    else (if kind == 6 then packet_step order total interfaces bytes
    else Moved (Passing order None (total - 12) total))))

-- type 0x0a0d0d0a begins the next section, whose order of bytes may be another
unfoldable pub block_step : Order → List Interface → List ℕ → Step
block_step order interfaces bytes =
    if nat_lt (length bytes) 8 then Need 8
    else (if word_at order 0 bytes == 0x0a0d0d0a then section_step bytes
    else body_step order (word_at order 0 bytes) (word_at order 4 bytes) interfaces bytes)
