-- What the bytes at a place of a file are (draft-ietf-opsawg-pcap, draft-ietf-opsawg-pcapng).
use Rattle.std.specs.Prelude.{ℕ, List, length, true, false, nat_lt, ◌==◌, if◌then◌else◌, Some}
use Rattle.capture_files.specs.declared.captured.Interface.{Interface}
use Rattle.capture_files.specs.declared.numbers.Order.TheVariants.{Big, Little}
use Rattle.capture_files.specs.declared.place.Place.{Place}
use Rattle.capture_files.specs.declared.place.Place.TheVariants as place
use Rattle.capture_files.specs.declared.place.Step.{Step}
use Rattle.capture_files.specs.declared.place.Step.TheVariants.{Need, Refused}
use Rattle.capture_files.specs.declared.reason.CaptureReason.TheVariants.{NotACapture}
use Rattle.capture_files.specs.Blocks.{block_step}
use Rattle.capture_files.specs.Classic.{header_step, record_step}
use Rattle.capture_files.specs.Interfaces.{option_step}
use Rattle.capture_files.specs.Numbers.{word_at}
use Rattle.capture_files.specs.Passing.{end_step, passing_step}
use Rattle.capture_files.specs.Sections.{section_step}

-- a file begins with a number: 0xa1b2c3d4 says microseconds and 0xa1b23c4d nanoseconds, each in the file's order of
-- bytes (draft-ietf-opsawg-pcap section 4), and 0x0a0d0d0a begins a section (draft-ietf-opsawg-pcapng section 4.1)
unfoldable pub start_step : List ℕ → Step
start_step bytes =
    if nat_lt (length bytes) 4 then Need 4
    else (if word_at Big 0 bytes == 0xa1b2c3d4 then header_step Big false bytes
    else (if word_at Big 0 bytes == 0xd4c3b2a1 then header_step Little false bytes
    else (if word_at Big 0 bytes == 0xa1b23c4d then header_step Big true bytes
    else (if word_at Big 0 bytes == 0x4d3cb2a1 then header_step Little true bytes
    else (if word_at Big 0 bytes == 0x0a0d0d0a then section_step bytes
    else Refused NotACapture)))))

-- what the bytes at this place are, in a section with these interfaces
unfoldable pub step_of : Place → List Interface → List ℕ → Step
step_of place.Start interfaces bytes = start_step bytes
step_of (place.Record file) interfaces bytes = record_step file bytes
step_of (place.Block order) interfaces bytes = block_step order interfaces bytes
step_of (place.Options order interface left total) interfaces bytes =
    if left == 0 then end_step order (Some interface) total bytes else option_step order interface left total bytes
step_of (place.Passing order interface left total) interfaces bytes =
    if left == 0 then end_step order interface total bytes else passing_step order interface left total bytes
