-- What a text of JSON is to a task that writes the bytes of a value (RFC 8259; RFC 4506 section 4).
use Rattle.std.specs.Prelude.{◌≡◌, ◌≢◌, ℕ, ◌+◌, ◌*◌, ◌<◌, ◌≤◌, ◌==◌, List, length, take, count_by, Option}
use Rattle.std.specs.Prelude.{None, Some, ⊤}
use Rattle.xdr_types.specs.Kinds.{KindView}
use Rattle.xdr_types.specs.Tree.{Tree}
use Rattle.xdr_types.specs.Spelling.{bytes_of}
use Rattle.xdr_types.specs.Within.{Bounds}
use Rattle.xdr_json.specs.Text.{IsSpelling, SpellsNone}
use Rattle.xdr_json_reader.specs.Places.{last_line}
use Rattle.xdr_json_reader.specs.Reasons.{Tells}
use Rattle.xdr_json_reader.specs.declared.fault.JsonReason.TheVariants.{NoMemory}
use Rattle.oncrpc_tasks.specs.declared.target.Target.{Target}
use Rattle.oncrpc_encode.specs.declared.encoded.Encoded.{Encoded}
use Rattle.oncrpc_encode.specs.declared.encoded.Encoded.TheVariants as encoded
use Rattle.oncrpc_encode.specs.declared.refusal.Refusal.{Refusal}
use Rattle.oncrpc_encode.specs.declared.refusal.Refusal.TheVariants as refusal

-- what is looked for in a text: a value of the kind at a place, within the limits
pub record Sought : Type 0 where
  pub kinds : List KindView
  pub place : ℕ
  pub limits : Bounds

-- what a target of the code is
abbrev pub sought_of : Target → Sought
sought_of t = record { kinds = t.schema.kinds; place = t.kind.place; limits = t.limits }

-- how many bytes a text has at most: 16 for each byte that a value may have, and 2^20 more (own)
abbrev pub most_bytes : Bounds → ℕ
most_bytes limits = 16 * limits.bytes + 1048576

-- so many for a value that is looked for
abbrev pub most_text : Sought → ℕ
most_text s = most_bytes s.limits

-- The text spells a value within the limits and no other, and the bytes are that value's (RFC 4506 section 4).
pub record IsEncoding (s : Sought) (text bytes : List ℕ) : Type 0 where
  pub value : Tree
  pub spelled : IsSpelling s.kinds s.place s.limits text value
  pub only : (t : Tree) → IsSpelling s.kinds s.place s.limits text t → t ≡ value
  pub bytes_are : bytes ≡ bytes_of s.kinds s.place value

-- these are the line and the column of a place, both from 1 (own)
abbrev pub IsAt : (text : List ℕ) → (at line column : ℕ) → Type 0
IsAt text at line column =
    (line ≡ 1 + count_by (λ (b : ℕ). b == 10) (take at text)) × (column ≡ 1 + length (last_line (take at text)))

-- these are the line and the column of some place in the text, or of its end
abbrev pub IsPlace : (text : List ℕ) → (line column : ℕ) → Type 0
IsPlace text line column = (at : ℕ) × (at ≤ length text) × IsAt text at line column

-- The refusal is right for the text. The text is too long, which is decided first. Or it spells no value within the
-- limits, the reason is right of it, and the line and the column are those of a place in it.
abbrev pub IsRightRefusal : Sought → (text : List ℕ) → Refusal → Type 0
IsRightRefusal s text (refusal.At why line column) =
    (length text ≤ most_text s) × SpellsNone s.kinds s.place s.limits text
    × ((why ≢ NoMemory) × Tells s.kinds s.place s.limits text why) × IsPlace text line column
IsRightRefusal s text refusal.TooLong = most_text s < length text

-- this is right for the text: the bytes of the value that it spells, or a refusal
abbrev pub IsRight : Sought → (text : List ℕ) → Encoded → Type 0
IsRight s text (encoded.Bytes v) = (length text ≤ most_text s) × IsEncoding s text v.items
IsRight s text (encoded.Refused r) = IsRightRefusal s text r

-- the same of an input, where its bytes are reported
abbrev pub IsRightFor : Sought → Option (List ℕ) → Encoded → Type 0
IsRightFor s None e = ⊤
IsRightFor s (Some text) e = IsRight s text e
