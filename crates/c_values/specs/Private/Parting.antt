-- The parts of a value one after another, as the code makes them.
use Rattle.std.specs.Prelude.{⊤, ◌≡◌, ◌≢◌, ℕ, ◌+◌, ◌<◌, List, [], ◌∷◌, length}
use Rattle.std.specs.List.{AllByRecursion}
use Rattle.xdr_types.specs.Kinds.{KindView, kind_at}
use Rattle.xdr_types.specs.Layout.{Entry}
use Rattle.xdr_parts.specs.declared.part.Lent.{Lent}
use Rattle.xdr_stream.specs.declared.fault.DecodeFault.{DecodeFault}
use Rattle.xdr_stream.specs.declared.fault.Reason.TheVariants as reason
use Rattle.c_values.specs.declared.listed.Listed.{Listed}
use Rattle.c_values.specs.declared.listed.Listed.TheVariants as listed
use Rattle.c_values.specs.declared.part.ValuePart.{ValuePart}
use Rattle.c_values.specs.Parts.{count_in, role_number, type_number}

-- the part with its name behind so many bytes of names
abbrev pub part_of : List KindView → (name_at : ℕ) → Entry → ValuePart
part_of kinds name_at e = record {
  at = e.at;
  count = count_in e.role e.size;
  name_at = name_at;
  name_count = length e.name;
  depth = e.depth;
  kind = e.kind;
  xdr_type = type_number (kind_at kinds e.kind);
  role = role_number e.role;
}

-- parts whose names begin behind so many bytes of names
abbrev pub parts_from : List KindView → (name_at : ℕ) → List Entry → List ValuePart
parts_from kinds name_at [] = []
parts_from kinds name_at (e ∷ es) = part_of kinds name_at e ∷ parts_from kinds (name_at + length e.name) es

-- the kind of each part is one of the schema's
abbrev pub AreKnown : List KindView → List Lent → Type 0
AreKnown kinds ls = AllByRecursion (λ (l : Lent). l.kind.place < length kinds) ls

-- the answer to an input of which nothing is listed: why it is refused, or an allocation failure
abbrev pub IsUnlisted : DecodeFault → Listed → Type 0
IsUnlisted f (listed.Refused g) = (g ≡ f) × (f.why ≢ reason.NoMemory)
IsUnlisted f listed.NoMemory = ⊤
IsUnlisted f _ = ⊥
