-- The parts of a value, lent from the bytes that spell it.
use Rattle.std.specs.Prelude.{◌≡◌, ℕ, ◌+◌, ◌≤◌, List, length, take, drop}
use Rattle.std.specs.List.{AllByRecursion}
use Rattle.xdr_types.specs.Layout as layout
use Rattle.xdr_types.specs.Layout.{Entry}
use Rattle.xdr_units.specs.Numbers.{pad}
use Rattle.xdr_parts.specs.declared.part.Lent.{Lent}
use Rattle.xdr_parts.specs.declared.part.Role.{Role}
use Rattle.xdr_parts.specs.declared.part.Role.TheVariants.{Number, Flag, Length, Content, Group}

-- what stands in so many bytes (RFC 4506 section 4)
abbrev pub role_in : Role → (count : ℕ) → layout.Role
role_in Number n = layout.of_number
role_in Flag n = layout.of_flag
role_in Length n = layout.of_length
role_in Content n = layout.of_content n
role_in Group n = layout.of_group

-- how many bytes of the encoding that takes: content has zeros after it (RFC 4506 section 3)
abbrev pub size_in : Role → (count : ℕ) → ℕ
size_in Content n = n + length (pad n)
size_in Number n = n
size_in Flag n = n
size_in Length n = n
size_in Group n = n

-- the part of the layout that a lent part is
abbrev pub entry_of : Lent → Entry
entry_of l = record {
  at = l.at;
  size = size_in l.role (length l.bytes.now);
  depth = l.depth;
  kind = l.kind.place;
  name = l.name.now;
  role = role_in l.role (length l.bytes.now);
}

-- its bytes are those that stand at its place in the input
abbrev pub IsLentFrom : (input : List ℕ) → Lent → Type 0
IsLentFrom input l = (l.at + length l.bytes.now ≤ length input)
    × (l.bytes.now ≡ take (length l.bytes.now) (drop l.at input))

-- and so for each of several parts
abbrev pub AreLentFrom : (bytes : List ℕ) → List Lent → Type 0
AreLentFrom bytes ls = AllByRecursion (IsLentFrom bytes) ls
