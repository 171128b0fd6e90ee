-- Which trees are values of a kind (RFC 4506 sections 4.1 to 4.19).
use Rattle.std.specs.Prelude.{ℕ, ℤ, pos, negsuc, List, [], ◌∷◌, length, replicate, Bool, true, false, ◌&&◌, ◌||◌, ◌==◌}
use Rattle.std.specs.Prelude.{◌^◌, nat_lt, nat_le, Option, Some, None, is_some, if◌then◌else◌, IsTrue}
use Rattle.std.specs.List.{find}
use Rattle.std.specs.Ordering.{int_eq}
use Rattle.xdr_types.specs.Kinds as xdr
use Rattle.xdr_types.specs.Kinds.{KindView, Part, Branch, Constant, kind_at}
use Rattle.xdr_types.specs.Tree as value
use Rattle.xdr_types.specs.Tree.{Head, Values, Tree}

-- a number from -half to half - 1 (RFC 4506 sections 4.1, 4.5)
abbrev pub is_signed : ℕ → ℤ → Bool
is_signed half (pos n) = nat_lt n half
is_signed half (negsuc n) = nat_lt n half

-- a number from 0 to count - 1 (RFC 4506 sections 4.2, 4.4)
abbrev pub is_unsigned : ℕ → ℤ → Bool
is_unsigned count (pos n) = nat_lt n count
is_unsigned count (negsuc n) = false

-- the number is a member's (RFC 4506 section 4.3)
abbrev pub is_constant : List Constant → ℤ → Bool
is_constant [] z = false
is_constant (c ∷ cs) z = int_eq c.number z || is_constant cs z

-- the number is one of the cases (RFC 4506 section 4.15)
abbrev pub is_listed : List ℤ → ℤ → Bool
is_listed [] z = false
is_listed (c ∷ cs) z = int_eq c z || is_listed cs z

-- a length or count that is at most max and goes into one unit (RFC 4506 sections 4.10, 4.11, 4.13)
abbrev pub is_length : ℕ → ℕ → Bool
is_length max n = nat_le n max && nat_lt n (2 ^ 32)

-- content is bytes: each of its numbers is below 256 (RFC 4506 section 4.9)
abbrev pub are_bytes : List ℕ → Bool
are_bytes [] = true
are_bytes (b ∷ bs) = nat_lt b 256 && are_bytes bs

-- the number of a member of an enumeration (RFC 4506 section 4.3)
abbrev pub is_numbered : List Constant → ℤ → Bool
is_numbered constants z = is_signed (2 ^ 31) z && is_constant constants z

-- the numbers that a discriminant of a kind may have (RFC 4506 section 4.15)
abbrev pub is_tag_of : KindView → ℤ → Bool
is_tag_of xdr.int z = is_signed (2 ^ 31) z
is_tag_of xdr.unsigned z = is_unsigned (2 ^ 32) z
is_tag_of xdr.boolean z = is_unsigned 2 z
is_tag_of (xdr.numbered constants) z = is_numbered constants z
is_tag_of _ z = false

-- the part of a union under a discriminant: that of the arm which lists it, else the default (RFC 4506 section 4.15)
abbrev pub part_of : List Branch → Option Part → ℤ → Option Part
part_of [] other tag = other
part_of (a ∷ arms) other tag = if is_listed a.cases tag then Some a.part else part_of arms other tag

-- the first member of an enumeration that has the number; none of another kind (RFC 4506 section 4.3)
abbrev pub member_in : KindView → ℤ → Option Constant
member_in (xdr.numbered constants) z = find (λ (c : Constant). int_eq c.number z) constants
member_in _ z = None

-- the part of a union under a discriminant; none of another kind (RFC 4506 section 4.15)
abbrev pub part_in : KindView → ℤ → Option Part
part_in (xdr.choice tag arms other) z = part_of arms other z
part_in _ z = None

-- the part, where there is one
abbrev pub optional_part : Option Part → List Part
optional_part None = []
optional_part (Some p) = p ∷ []

-- an item has no name
abbrev pub item_part : ℕ → Part
item_part kind = record { name = []; kind = kind }

-- what a value of a kind may show at its head: the right form, numbers in range, lengths exact or at most max (RFC 4506
-- sections 4.1 to 4.19)
abbrev pub is_legal : List KindView → KindView → Head → Bool
is_legal kinds xdr.int (value.int z) = is_signed (2 ^ 31) z
is_legal kinds xdr.unsigned (value.unsigned n) = nat_lt n (2 ^ 32)
is_legal kinds xdr.hyper (value.hyper z) = is_signed (2 ^ 63) z
is_legal kinds xdr.unsigned_hyper (value.unsigned_hyper n) = nat_lt n (2 ^ 64)
is_legal kinds xdr.boolean (value.boolean b) = true
is_legal kinds (xdr.numbered constants) (value.numbered z) = is_numbered constants z
is_legal kinds (xdr.opaque size) (value.bytes bs) = length bs == size && are_bytes bs
is_legal kinds (xdr.opaque_up_to max) (value.bytes bs) = is_length max (length bs) && are_bytes bs
is_legal kinds (xdr.text max) (value.bytes bs) = is_length max (length bs) && are_bytes bs
is_legal kinds (xdr.fixed item size) (value.items n) = n == size
is_legal kinds (xdr.up_to item max) (value.items n) = is_length max n
is_legal kinds (xdr.structure parts) value.fields = true
is_legal kinds (xdr.choice tag arms other) (value.tag z) =
    is_tag_of (kind_at kinds tag) z && is_some (part_of arms other z)
is_legal kinds (xdr.maybe item) value.present = true
is_legal kinds (xdr.maybe item) value.absent = true
is_legal kinds xdr.nothing value.nothing = true
is_legal kinds _ _ = false

-- the parts that a node of a kind has under its head: items, fields, the part of an arm, an optional item (RFC 4506
-- sections 4.12 to 4.15, 4.19)
abbrev pub parts : KindView → Head → List Part
parts (xdr.fixed item size) (value.items n) = replicate n (item_part item)
parts (xdr.up_to item max) (value.items n) = replicate n (item_part item)
parts (xdr.structure ps) value.fields = ps
parts (xdr.choice tag arms other) (value.tag z) = optional_part (part_of arms other z)
parts (xdr.maybe item) value.present = item_part item ∷ []
parts _ _ = []

-- one value for each part: its head is legal, and there is one value for each of its own parts
abbrev pub fit : List KindView → List Part → Values → Bool
fit kinds [] value.none = true
fit kinds (p ∷ ps) (value.node h inner rest) =
    (is_legal kinds (kind_at kinds p.kind) h && fit kinds (parts (kind_at kinds p.kind) h) inner) && fit kinds ps rest
fit kinds _ _ = false

-- a tree is a value of the kind at the place
abbrev pub fits : List KindView → ℕ → Tree → Bool
fits kinds place t = is_legal kinds (kind_at kinds place) t.0 && fit kinds (parts (kind_at kinds place) t.0) t.1

-- a tree is a value of the kind at the place, as a fact
abbrev pub Fits : List KindView → ℕ → Tree → Type 0
Fits kinds place t = IsTrue (fits kinds place t)
