-- What a unit makes, and why it is refused.
use Rattle.std.specs.Prelude.{◌≡◌, ℕ, List, []}
use Rattle.xdr_types.specs.Kinds as xdr
use Rattle.xdr_types.specs.Kinds.{KindView}
use Rattle.xdr_types.specs.Fits.{parts}
use Rattle.xdr_types.specs.Outcome as outcome
use Rattle.xdr_types.specs.Outcome.{Why}
use Rattle.xdr_laws.specs.Owed.{lead_of, IsUnitFirst, IsLengthFirst, Accepts, head_of, why_of}
use Rattle.xdr_stream.specs.Trace.{IsOpen}
use Rattle.xdr_stream.specs.Nodes.{head_of_leaf, head_of_node}
use Rattle.xdr_stream.specs.Frames.{left_of}
use Rattle.xdr_stream.specs.declared.fault.Reason.{Reason}
use Rattle.xdr_stream.specs.declared.fault.Reason.TheVariants as reason
use Rattle.xdr_stream.specs.declared.machine.number.Made.{Made}
use Rattle.xdr_stream.specs.declared.machine.number.Made.TheVariants.{Leaf, Open, Length}

-- the reason is this one
abbrev pub IsWhy : Reason → Why → Type 0
IsWhy reason.BadBool why = why ≡ outcome.bad_bool
IsWhy reason.BadNumbered why = why ≡ outcome.bad_numbered
IsWhy reason.BadCase why = why ≡ outcome.bad_case
IsWhy reason.TooLong why = why ≡ outcome.too_long
IsWhy reason.BadPadding why = why ≡ outcome.bad_padding
IsWhy reason.TooDeep why = ⊥
IsWhy reason.TooLarge why = ⊥
IsWhy reason.Truncated why = ⊥
IsWhy reason.NoMemory why = ⊥

-- what is made is the head of the unit
abbrev pub MakesHead : List KindView → KindView → (unit : ℕ) → Made → Type 0
MakesHead kinds f x (Leaf leaf) = IsUnitFirst (lead_of f) × (head_of_leaf leaf ≡ head_of kinds f x)
    × (parts f (head_of kinds f x) ≡ [])
MakesHead kinds f x (Open node frame) = IsUnitFirst (lead_of f) × (head_of_node node ≡ head_of kinds f x)
    × IsOpen (head_of kinds f x) × (parts f (head_of kinds f x) ≡ left_of frame)
MakesHead kinds f x (Length n) = IsLengthFirst (lead_of f) × (n ≡ x)

abbrev pub Takes : List KindView → KindView → (unit : ℕ) → Made → Type 0
Takes kinds f x made = Accepts kinds f x × MakesHead kinds f x made

abbrev pub Refuses : List KindView → KindView → (unit : ℕ) → Reason → Type 0
Refuses kinds f x why = (Accepts kinds f x → ⊥) × IsWhy why (why_of kinds f x)

-- the reason against a number that is none of a discriminant's
abbrev pub tag_why : KindView → Why
tag_why xdr.boolean = outcome.bad_bool
tag_why (xdr.numbered constants) = outcome.bad_numbered
tag_why _ = outcome.bad_case
