-- The block that describes an interface, and its options (draft-ietf-opsawg-pcapng sections 3.5 and 4.2).
use Rattle.std.specs.Prelude.{ℕ, ◌+◌, ◌-◌, ◌*◌, ◌/◌, List, length, ◌&&◌, nat_lt, nat_le, ◌==◌, if◌then◌else◌, Some}
use Rattle.capture_files.specs.declared.captured.Interface.{Interface}
use Rattle.capture_files.specs.declared.numbers.Order.{Order}
use Rattle.capture_files.specs.declared.place.Place.TheVariants.{Options, Passing}
use Rattle.capture_files.specs.declared.place.Step.{Step}
use Rattle.capture_files.specs.declared.place.Step.TheVariants.{Need, Moved, Refused}
use Rattle.capture_files.specs.declared.reason.CaptureReason.TheVariants.{BadLength, TooManyInterfaces}
use Rattle.capture_files.specs.Limits.{most_interfaces}
use Rattle.capture_files.specs.Numbers.{byte_at, half_at, word_at}

-- type, length, the type of the link, a number that is not used, and the length of a packet at most (section 4.2);
-- where no option says more, times are in microseconds
unfoldable pub interface_step : Order → ℕ → ℕ → List ℕ → Step
interface_step order total known bytes =
    if nat_lt total 20 then Refused BadLength
    else (if nat_le most_interfaces known then Refused TooManyInterfaces
    else (if nat_lt (length bytes) 16 then Need 16
    else Moved (Options order
    (record { link = half_at order 8 bytes; snapshot = word_at order 12 bytes; resolution = 6 }) (total - 20) total)))

-- the length of a value with the padding to a multiple of four (section 3.5)
abbrev pub padded_length : ℕ → ℕ
padded_length size = (size + 3) / 4 * 4

-- option 9, if_tsresol, has one byte (section 4.2)
abbrev pub resolution_of : Interface → ℕ → ℕ → List ℕ → ℕ
resolution_of interface code size bytes =
    if (code == 9) && (size == 1) then byte_at 4 bytes else interface.resolution

-- an option's code, the length of its value, and the value; code 0 ends the options (section 3.5)
unfoldable pub option_step : Order → Interface → ℕ → ℕ → List ℕ → Step
option_step order interface left total bytes =
    if nat_lt left 4 then Refused BadLength
    else (if nat_lt (length bytes) 4 then Need 4
    else (if half_at order 0 bytes == 0 then Moved (Passing order (Some interface) (left - 4) total)
    else (if nat_lt left (4 + padded_length (half_at order 2 bytes)) then Refused BadLength
    else (if nat_lt (length bytes) (4 + padded_length (half_at order 2 bytes))
    then Need (4 + padded_length (half_at order 2 bytes))
    else Moved (Options order (record {
      link = interface.link;
      snapshot = interface.snapshot;
      resolution = resolution_of interface (half_at order 0 bytes) (half_at order 2 bytes) bytes;
    }) (left - (4 + padded_length (half_at order 2 bytes))) total)))))
