-- What comes next after the bytes so far: the part in which the next unit stands, in each value that begins with them
-- (RFC 4506 section 4). That there is one such part is `xdr_laws::goes_on`.
use Rattle.std.specs.Prelude.{◌≡◌, ℕ, ◌+◌, ◌<◌, ◌≤◌, Bool, true, false, List, length, ⊤}
use Rattle.xdr_types.specs.Kinds as xdr
use Rattle.xdr_types.specs.Kinds.{KindView, kind_at}
use Rattle.xdr_types.specs.Within.{Bounds}
use Rattle.xdr_types.specs.Layout.{Entry, of_number, of_content}
use Rattle.xdr_types.specs.Outcome.{HasNextUnit}
use Rattle.xdr_laws.specs.Owed.{HasUnit, lead_of, role_of}
use Rattle.xdr_due.specs.declared.due.Due.{Due}
use Rattle.xdr_due.specs.declared.due.Due.TheVariants as due

-- the kind of hyper integers, signed or not (RFC 4506 section 4.5)
abbrev pub hyper_kind : (signed : Bool) → KindView
hyper_kind true = xdr.hyper
hyper_kind false = xdr.unsigned_hyper

-- the next unit begins a node of this kind, by a number, a flag, a count or a length as the kind has it
abbrev pub BeginsNode : List KindView → (root : ℕ) → Bounds → (b : List ℕ) → (kind : ℕ) → Type 0
BeginsNode kinds root limits b kind =
    (e : Entry) × HasNextUnit kinds root b e × (e.at ≡ length b) × (e.size ≡ 4) × (e.kind ≡ kind)
    × (e.role ≡ role_of (kind_at kinds kind)) × HasUnit (lead_of (kind_at kinds kind)) × (e.depth ≤ limits.depth)

-- the next unit stands in the number of a hyper integer, so many bytes after its beginning
abbrev pub StandsInHyper : List KindView → (root : ℕ) → (b : List ℕ) → (signed : Bool) → (after : ℕ) → Type 0
StandsInHyper kinds root b signed after =
    (e : Entry) × HasNextUnit kinds root b e × (e.at + after ≡ length b) × (e.size ≡ 8) × (e.role ≡ of_number)
    × (kind_at kinds e.kind ≡ hyper_kind signed)

-- the next unit stands in content, n bytes of which are to come
abbrev pub StandsInContent : List KindView → (root : ℕ) → (b : List ℕ) → (n : ℕ) → Type 0
StandsInContent kinds root b n =
    (e : Entry) × (m : ℕ) × HasNextUnit kinds root b e × (e.role ≡ of_content m) × (e.at + m ≡ length b + n) × (0 < n)

-- what is due after the bytes b
abbrev pub IsDue : List KindView → (root : ℕ) → Bounds → (b : List ℕ) → Due → Type 0
IsDue kinds root limits b (due.Unit k) = BeginsNode kinds root limits b k.place
IsDue kinds root limits b (due.Content n) = StandsInContent kinds root b n
IsDue kinds root limits b (due.Hyper signed) = StandsInHyper kinds root b signed 0
IsDue kinds root limits b (due.Low signed) = StandsInHyper kinds root b signed 4
IsDue kinds root limits b due.Nothing = ⊤

-- nothing is awaited
abbrev pub IsNothing : Due → Type 0
IsNothing due.Nothing = ⊤
IsNothing _ = ⊥
