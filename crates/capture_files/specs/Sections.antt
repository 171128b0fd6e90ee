-- The block that begins a section (draft-ietf-opsawg-pcapng section 4.1).
use Rattle.std.specs.Prelude.{ℕ, ◌-◌, ◌%◌, List, length, not, ◌||◌, ◌&&◌, nat_lt, ◌==◌, if◌then◌else◌, Option}
use Rattle.std.specs.Prelude.{Some, None}
use Rattle.capture_files.specs.declared.numbers.Order.{Order}
use Rattle.capture_files.specs.declared.numbers.Order.TheVariants.{Big, Little}
use Rattle.capture_files.specs.declared.place.Place.TheVariants.{Passing}
use Rattle.capture_files.specs.declared.place.Step.{Step}
use Rattle.capture_files.specs.declared.place.Step.TheVariants.{Need, Section, Refused}
use Rattle.capture_files.specs.declared.reason.CaptureReason.TheVariants.{NotACapture, UnknownVersion, BadLength}
use Rattle.capture_files.specs.Numbers.{half_at, word_at}

-- the number 0x1a2b3c4d stands at place 8 in the section's order of bytes
abbrev pub section_order : List ℕ → Option Order
section_order bytes =
    if word_at Big 8 bytes == 0x1a2b3c4d then Some Big
    else (if word_at Big 8 bytes == 0x4d3c2b1a then Some Little else None)

-- the block's length: a multiple of four, at least that of a block without options
abbrev pub total_length : Order → List ℕ → ℕ
total_length order bytes = word_at order 4 bytes

-- type, length, order, version 1.0 or 1.2, and the section's length; options are passed over
unfoldable pub section_in : Order → List ℕ → Step
section_in order bytes =
    if not (total_length order bytes % 4 == 0) || nat_lt (total_length order bytes) 28 then Refused BadLength
    else (if not (half_at order 12 bytes == 1)
    || (not (half_at order 14 bytes == 0) && not (half_at order 14 bytes == 2)) then Refused UnknownVersion
    else Section (Passing order None (total_length order bytes - 28) (total_length order bytes)))

-- a section that shows no order of bytes is none (section 4.1)
abbrev pub section_or_none : Option Order → List ℕ → Step
section_or_none (Some order) bytes = section_in order bytes
section_or_none None bytes = Refused NotACapture

-- 24 bytes are looked at: type, length, order, version and the section's length (section 4.1)
unfoldable pub section_step : List ℕ → Step
section_step bytes = if nat_lt (length bytes) 24 then Need 24 else section_or_none (section_order bytes) bytes
