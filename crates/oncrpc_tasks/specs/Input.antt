-- What the input of a task gives it.
use Rattle.std.specs.Prelude.{◌≡◌, ℕ, ◌<◌, ◌≤◌, Bool, List, [], ◌++◌, length, Option, Some, None, Ok, ⊤}
use Rattle.std.specs.Prelude.{◌+◌, if◌then◌else◌}
use Rattle.hex.specs.Hex.{decode_of}
use Rattle.oncrpc_tasks.specs.declared.given.Given.{Given}
use Rattle.oncrpc_tasks.specs.declared.given.Given.TheVariants as given
use Rattle.oncrpc_tasks.specs.Hexadecimal.{digits, IsBadHex}
use Rattle.oncrpc_tasks.specs.declared.hexadecimal.TheConstants.{MOST_TEXT}

-- The bytes begin the input, and are all of it where they are no more than enough.
abbrev pub BeginsInput : ℕ → List ℕ → List ℕ → Type 0
BeginsInput enough input bytes = (rest : List ℕ) × (input ≡ bytes ++ rest) × (length bytes ≤ enough → rest ≡ [])

-- what a text of hexadecimal gives; too long is decided first
abbrev pub TextGives : List ℕ → Given → Type 0
TextGives text given.HexTooLong = MOST_TEXT < length text
TextGives text given.BadHex = (length text ≤ MOST_TEXT) × IsBadHex text
TextGives text (given.Bytes v) = (length text ≤ MOST_TEXT) × (decode_of (digits text) ≡ Ok v.items)

-- what the input gives, where its bytes are reported
abbrev pub InputGives : Option (List ℕ) → Given → Type 0
InputGives None g = ⊤
InputGives (Some text) g = TextGives text g

-- how many bytes are read at most: a page of 4096 past the limit, which for a text of hexadecimal is MOST_TEXT
abbrev pub most_read : Bool → ℕ → ℕ
most_read hex enough = (if hex then MOST_TEXT else enough) + 4096
