-- The outcome of decoding a list of bytes: the first event at the least place that has one.
use Rattle.std.specs.Prelude.{ℕ, ◌+◌, ◌-◌, ◌%◌, ◌<◌, ◌≤◌, ◌≡◌, ℤ, pos, negsuc, cond, List, length, ⊤, IsTrue, is_some}
use Rattle.std.specs.Prelude.{take, drop, Contains, nat_lt, ◌^◌}
use Rattle.std.specs.Int.{w32, from_be_bytes}
use Rattle.std.specs.List.{AllByRecursion}
use Rattle.xdr_types.specs.Kinds as xdr
use Rattle.xdr_types.specs.Kinds.{KindView, kind_at}
use Rattle.xdr_types.specs.Tree.{Tree}
use Rattle.xdr_types.specs.Fits.{Fits, is_numbered, is_tag_of, part_of}
use Rattle.xdr_types.specs.Spelling.{bytes_of}
use Rattle.xdr_types.specs.Within.{Bounds}
use Rattle.xdr_types.specs.Layout.{Entry, entries, Role, of_number, of_flag, of_length, of_content, of_group}
use Rattle.xdr_types.specs.Front.{BeginsWith, Front}

-- why a unit is refused (RFC 4506 sections 4.4, 4.3, 4.15, 4.10 to 4.13, 3)
pub data Why : Type 0 where
  -- a boolean, a flag or a boolean discriminant that is neither 0 nor 1
  bad_bool : Why
  -- an enumeration's number, or a discriminant, that is no member's
  bad_numbered : Why
  -- a discriminant without an arm and without a default
  bad_case : Why
  -- a length or a count above its bound
  too_long : Why
  -- a byte of padding that is not zero
  bad_padding : Why

-- how decoding ends, at a place, which is the count of bytes before it; pending where nothing has happened
pub data Ending : Type 0 where
  Pending : Ending
  Whole : Tree → (place : ℕ) → Ending
  TooDeep : (place : ℕ) → Ending
  TooLarge : (place : ℕ) → Ending
  Broken : Why → (place : ℕ) → Ending

-- decoding has ended
abbrev pub IsEvent : Ending → Type 0
IsEvent Pending = ⊥
IsEvent _ = ⊤

-- ---- why a unit is refused

-- the number that a unit represents as two's complement (RFC 4506 section 4.1)
abbrev pub signed : (unit : ℕ) → ℤ
signed x = cond (nat_lt x (2 ^ 31)) (pos x) (negsuc (2 ^ 32 - 1 - x))

-- the number that a unit represents in a kind of numbers (RFC 4506 sections 4.1 to 4.4)
abbrev pub number_in : KindView → (unit : ℕ) → ℤ
number_in xdr.int x = signed x
number_in (xdr.numbered constants) x = signed x
number_in _ x = pos x

-- what stands against a discriminant: its own kind, or that it has no part (RFC 4506 section 4.15)
abbrev pub tag_reason : KindView → (unit : ℕ) → Why
tag_reason xdr.boolean x = cond (nat_lt x 2) bad_case bad_bool
tag_reason (xdr.numbered constants) x = cond (is_numbered constants (signed x)) bad_case bad_numbered
tag_reason _ x = bad_case

-- what stands against a number (RFC 4506 sections 4.3, 4.4, 4.15)
abbrev pub number_reason : List KindView → KindView → (unit : ℕ) → Why
number_reason kinds (xdr.numbered constants) x = bad_numbered
number_reason kinds (xdr.choice tag arms other) x = tag_reason (kind_at kinds tag) x
number_reason kinds _ x = bad_bool

-- the table of reasons: why a unit is refused in a part of a kind (RFC 4506 sections 3 and 4)
abbrev pub reason : List KindView → KindView → Role → (unit : ℕ) → Why
reason kinds f of_number x = number_reason kinds f x
reason kinds f of_flag x = bad_bool
reason kinds f of_length x = too_long
reason kinds f (of_content n) x = bad_padding
reason kinds f of_group x = bad_padding

-- the unit after q stands in this part of some value that begins with q
abbrev pub HasNextUnit : List KindView → (kind : ℕ) → (q : List ℕ) → Entry → Type 0
HasNextUnit kinds kind q e = (v : Tree) × BeginsWith kinds kind q v × Contains (entries kinds kind v) e
    × (e.at ≤ length q) × (length q < e.at + e.size)

-- the table's reason against the unit after q, by the part in which it stands
abbrev pub IsReason : List KindView → (kind : ℕ) → (q : List ℕ) → (unit : ℕ) → Why → Type 0
IsReason kinds kind q x why = (e : Entry) × HasNextUnit kinds kind q e
    × (why ≡ reason kinds (kind_at kinds e.kind) e.role x)

-- no reason stands against the number in the first unit of a kind (RFC 4506 sections 4.3, 4.4, 4.15)
abbrev pub AdmitsNumber : List KindView → KindView → (unit : ℕ) → Type 0
AdmitsNumber kinds xdr.boolean x = x < 2
AdmitsNumber kinds (xdr.numbered constants) x = IsTrue (is_numbered constants (signed x))
AdmitsNumber kinds (xdr.choice tag arms other) x =
    IsTrue (is_tag_of (kind_at kinds tag) (number_in (kind_at kinds tag) x))
    × IsTrue (is_some (part_of arms other (number_in (kind_at kinds tag) x)))
AdmitsNumber kinds _ x = ⊤

-- a length is at most its bound (RFC 4506 sections 4.10, 4.11, 4.13)
abbrev pub AdmitsLength : KindView → (unit : ℕ) → Type 0
AdmitsLength (xdr.opaque_up_to max) x = x ≤ max
AdmitsLength (xdr.text max) x = x ≤ max
AdmitsLength (xdr.up_to item max) x = x ≤ max
AdmitsLength _ x = ⊤

-- no reason stands against the bytes of a unit that begins so many bytes after the beginning of a part (RFC 4506
-- sections 3 and 4)
abbrev pub Admits : List KindView → KindView → Role → (after : ℕ) → (unit : List ℕ) → Type 0
Admits kinds f of_number after u = AdmitsNumber kinds f (from_be_bytes w32 u)
Admits kinds f of_flag after u = from_be_bytes w32 u < 2
Admits kinds f of_length after u = AdmitsLength f (from_be_bytes w32 u)
Admits kinds f (of_content n) after u = AllByRecursion (λ (b : ℕ). b ≡ 0) (drop (n - after) u)
Admits kinds f of_group after u = ⊤

-- ---- the four events at a place p of the bytes b

-- a node deeper than the limit is due: it begins within or right after q in some value that begins with q
abbrev pub IsDeep : List KindView → (kind : ℕ) → Bounds → (q : List ℕ) → Type 0
IsDeep kinds kind limits q = (v : Tree) × BeginsWith kinds kind q v × (e : Entry) × Contains (entries kinds kind v) e
    × (e.at ≤ length q) × (limits.depth < e.depth)

-- the value is whole: its bytes are the first p
pub record IsFull (kinds : List KindView) (kind : ℕ) (b : List ℕ) (p : ℕ) (v : Tree) : Type 0 where
  pub fits : Fits kinds kind v
  pub spelled : bytes_of kinds kind v ≡ take p b

-- the limit on bytes is reached
abbrev pub IsLarge : Bounds → (p : ℕ) → Type 0
IsLarge limits p = p ≡ limits.bytes

-- the next unit is there and no value goes on with it, for this reason
pub record IsBad (kinds : List KindView) (kind : ℕ) (b : List ℕ) (p : ℕ) (why : Why) : Type 0 where
  pub enough : p + 4 ≤ length b
  pub no_front : Front kinds kind (take (p + 4) b) → ⊥
  pub reason : IsReason kinds kind (take p b) (from_be_bytes w32 (take 4 (drop p b))) why

-- ---- the outcome

-- none of the four events is at p
pub record IsQuiet (kinds : List KindView) (kind : ℕ) (limits : Bounds) (b : List ℕ) (p : ℕ) : Type 0 where
  pub shallow : IsDeep kinds kind limits (take p b) → ⊥
  pub unfinished : (v : Tree) → IsFull kinds kind b p v → ⊥
  pub small : IsLarge limits p → ⊥
  pub front : p + 4 ≤ length b → Front kinds kind (take (p + 4) b)

-- p is a whole number of units of b, and no event is before it
pub record IsReached (kinds : List KindView) (kind : ℕ) (limits : Bounds) (b : List ℕ) (p : ℕ) : Type 0 where
  pub units : p % 4 ≡ 0
  pub within : p ≤ length b
  pub before : (r : ℕ) → r < p → r % 4 ≡ 0 → IsQuiet kinds kind limits b r

-- the outcome of decoding b: the first of the events deep, whole, large, bad at the least place that has one, and
-- pending where there is none
abbrev pub Outcome : List KindView → (kind : ℕ) → Bounds → (b : List ℕ) → Ending → Type 0
Outcome kinds kind limits b Pending = (p : ℕ) → p % 4 ≡ 0 → p ≤ length b → IsQuiet kinds kind limits b p
Outcome kinds kind limits b (TooDeep p) = IsReached kinds kind limits b p × IsDeep kinds kind limits (take p b)
Outcome kinds kind limits b (Whole v p) =
    IsReached kinds kind limits b p × (IsDeep kinds kind limits (take p b) → ⊥) × IsFull kinds kind b p v
Outcome kinds kind limits b (TooLarge p) =
    IsReached kinds kind limits b p × (IsDeep kinds kind limits (take p b) → ⊥)
    × ((v : Tree) → IsFull kinds kind b p v → ⊥) × IsLarge limits p
Outcome kinds kind limits b (Broken why p) =
    IsReached kinds kind limits b p × (IsDeep kinds kind limits (take p b) → ⊥)
    × ((v : Tree) → IsFull kinds kind b p v → ⊥) × (IsLarge limits p → ⊥)
    × IsBad kinds kind b p why
