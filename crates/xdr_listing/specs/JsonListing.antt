-- What a text declares as one JSON value (RFC 8259).
use Rattle.std.specs.Prelude.{ℕ, ℤ, List, ◌++◌, ◌^◌, map, Option, Some, None, if◌then◌else◌, nat_lt, codes}
use Rattle.std.specs.Prelude.{decimal, unsigned_abs, slice_get}
use Rattle.std.specs.Fmt.{signed_decimal}
use Rattle.json.specs.Json as json
use Rattle.json.specs.Json.{Json, Members, no_members, member}
use Rattle.json.specs.Print.{print}
use Rattle.json.specs.Tree.{json_tokens}
use Rattle.json.specs.Value.{items_of}
use Rattle.xdr_types.specs.Kinds.{Part, kind_at}
use Rattle.xdr_lang.specs.Declarations.{Declared, Constant, Procedure, Version, Program}
use Rattle.xdr_bounds.specs.declared.greatest.Greatest.{Greatest}
use Rattle.xdr_bounds.specs.declared.greatest.Greatest.TheVariants as greatest
use Rattle.xdr_bounds.specs.declared.range.Range.{Range}
use Rattle.xdr_listing.specs.Words.{Types, kind_word, name_of_place, count_word}
use Rattle.xdr_listing.specs.Listing.{own_constants, own_types}

-- ---- numbers: those below 2^53 are read alike everywhere, others are strings (RFC 8259 section 6)

-- a count of bytes; one of 2^64 or more has a word (own)
abbrev pub count_json : ℕ → Json
count_json n = if nat_lt n (2 ^ 53) then json.number (decimal n) else json.string (count_word n)

abbrev pub integer_json : ℤ → Json
integer_json z =
    if nat_lt (unsigned_abs z) (2 ^ 53) then json.number (signed_decimal z) else json.string (signed_decimal z)

-- ---- counts of bytes

-- the least, or that it is 2^64 or more (own)
abbrev pub least_json : Option ℕ → Json
least_json (Some n) = count_json n
least_json None = json.string (codes "large")

-- the greatest, or that it is 2^64 or more, or that no count is the greatest (own)
abbrev pub greatest_json : Greatest → Json
greatest_json (greatest.Bytes n) = count_json n
greatest_json greatest.MoreThanU64 = json.string (codes "large")
greatest_json greatest.Unbounded = json.string (codes "unbounded")

-- both counts; none outside the list (own)
abbrev pub range_members : Option Range → Members
range_members (Some r) =
    member (codes "least") (least_json r.least) (member (codes "greatest") (greatest_json r.greatest) no_members)
range_members None = no_members

-- ---- what is declared

-- a kind by its word, and both counts (own)
abbrev pub kind_members : Types → (place : ℕ) → Members
kind_members t place =
    member (codes "kind") (json.string (kind_word (kind_at t.schema.kinds place)))
    (range_members (slice_get t.ranges place))

-- the name of a type; null where it has none (own)
abbrev pub name_json : Option (List ℕ) → Json
name_json (Some name) = json.string name
name_json None = json.null

-- an argument or a result: its type by name and kind, and both counts (own)
abbrev pub part_json : Types → (place : ℕ) → Json
part_json t place =
    json.object (member (codes "type") (name_json (name_of_place t.schema.names place)) (kind_members t place))

-- what has a name, and further members (own)
abbrev pub named_json : (name : List ℕ) → Members → Json
named_json name more = json.object (member (codes "name") (json.string name) more)

-- what has a name, a number, and further members (own)
abbrev pub numbered_json : (name : List ℕ) → (number : ℕ) → Members → Json
numbered_json name number more =
    named_json name (member (codes "number") (json.number (decimal number)) more)

-- a constant (own)
abbrev pub constant_json : Constant → Json
constant_json c = named_json c.name (member (codes "value") (integer_json c.value) no_members)

-- a type (own)
abbrev pub type_json : Types → Part → Json
type_json t p = named_json p.name (kind_members t p.kind)

-- a result; null where it is void (own)
abbrev pub result_json : Types → Option ℕ → Json
result_json t None = json.null
result_json t (Some place) = part_json t place

-- a procedure with its arguments in their order, and its result (own)
abbrev pub procedure_json : Types → Procedure → Json
procedure_json t p =
    numbered_json p.name p.number
    (member (codes "arguments") (json.array (items_of (map (part_json t) p.arguments)))
    (member (codes "result") (result_json t p.result) no_members))

-- a version with its procedures (own)
abbrev pub version_json : Types → Version → Json
version_json t v =
    numbered_json v.name v.number
    (member (codes "procedures") (json.array (items_of (map (procedure_json t) v.procedures))) no_members)

-- a program with its versions (own)
abbrev pub program_json : Types → Program → Json
program_json t p =
    numbered_json p.name p.number
    (member (codes "versions") (json.array (items_of (map (version_json t) p.versions))) no_members)

-- constants, types and programs (own)
abbrev pub all_json : Types → List Constant → List Part → List Program → Json
all_json t constants names programs =
    json.object (member (codes "constants") (json.array (items_of (map constant_json constants)))
    (member (codes "types") (json.array (items_of (map (type_json t) names)))
    (member (codes "programs") (json.array (items_of (map (program_json t) programs))) no_members)))

-- the text of all that a text declares, without spaces, and a line feed (RFC 8259 section 2; own)
abbrev pub json_listing : Declared → Types → List ℕ
json_listing d t =
    print (json_tokens (all_json t (own_constants d) (own_types d) d.programs)) ++ codes "\n"
