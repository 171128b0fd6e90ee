-- What is said of a type: a word for its kind, and the least and the greatest count of bytes of its values.
use Rattle.std.specs.Prelude.{ℕ, List, [], ◌∷◌, ◌++◌, ◌^◌, ◌==◌, nat_lt, if◌then◌else◌, Option, Some, None, codes}
use Rattle.std.specs.Prelude.{decimal, slice_get}
use Rattle.xdr_types.specs.Kinds as xdr
use Rattle.xdr_types.specs.Kinds.{KindView, Lists, Part, kind_at}
use Rattle.xdr_bounds.specs.declared.greatest.Greatest.{Greatest}
use Rattle.xdr_bounds.specs.declared.greatest.Greatest.TheVariants as greatest
use Rattle.xdr_bounds.specs.declared.range.Range.{Range}

-- the kinds and names of a schema, and for each kind how many bytes its values have
pub record Types : Type 0 where
  pub schema : Lists
  pub ranges : List Range

-- the word of a kind: its name where it is a basic one, else that of its declaration, or one for what no word declares
-- (RFC 4506 sections 4.1 to 4.19; own)
abbrev pub kind_word : KindView → List ℕ
kind_word xdr.int = codes "int"
kind_word xdr.unsigned = codes "unsigned"
kind_word xdr.hyper = codes "hyper"
kind_word xdr.unsigned_hyper = codes "unsigned-hyper"
kind_word xdr.boolean = codes "bool"
kind_word (xdr.numbered members) = codes "enum"
kind_word (xdr.opaque size) = codes "opaque"
kind_word (xdr.opaque_up_to max) = codes "opaque"
kind_word (xdr.text max) = codes "string"
kind_word (xdr.fixed item size) = codes "array"
kind_word (xdr.up_to item max) = codes "list"
kind_word (xdr.structure fields) = codes "struct"
kind_word (xdr.choice tag arms other) = codes "union"
kind_word (xdr.maybe item) = codes "optional"
kind_word xdr.nothing = codes "void"
kind_word xdr.unknown = []

-- a count of bytes; one of 2^64 or more has a word (own)
abbrev pub count_word : ℕ → List ℕ
count_word n = if nat_lt n (2 ^ 64) then decimal n else codes "large"

-- the least count of bytes, or that it is 2^64 or more (own)
abbrev pub least_word : Option ℕ → List ℕ
least_word (Some n) = count_word n
least_word None = codes "large"

-- the greatest count of bytes, or that it is 2^64 or more, or that no count is the greatest (own)
abbrev pub greatest_word : Greatest → List ℕ
greatest_word (greatest.Bytes n) = count_word n
greatest_word greatest.MoreThanU64 = codes "large"
greatest_word greatest.Unbounded = codes "unbounded"

-- both counts, two dots between them; nothing outside the list (own)
abbrev pub range_word : Option Range → List ℕ
range_word (Some r) = least_word r.least ++ codes ".." ++ greatest_word r.greatest
range_word None = []

-- the kind at a place, and both counts (own)
abbrev pub kind_text : Types → (place : ℕ) → List ℕ
kind_text t place = kind_word (kind_at t.schema.kinds place) ++ codes " " ++ range_word (slice_get t.ranges place)

-- the first name of the kind at a place, where it has one
abbrev pub name_of_place : List Part → (place : ℕ) → Option (List ℕ)
name_of_place [] place = None
name_of_place (p ∷ ps) place = if p.kind == place then Some p.name else name_of_place ps place

-- the same as a word (own)
abbrev pub name_word : Option (List ℕ) → List ℕ
name_word (Some name) = name
name_word None = codes "-"

-- the name of a type, its kind, and both counts (own)
abbrev pub named_text : Types → (place : ℕ) → List ℕ
named_text t place = name_word (name_of_place t.schema.names place) ++ codes " " ++ kind_text t place
