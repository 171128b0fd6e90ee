-- What starting a registry does, and what setting and removing rows does (RFC 1833 sections 2 and 3).
use Rattle.std.specs.Prelude.{◌≡◌, ◌≤◌, ℕ, true, false, List, length, Option, Some, None}
use Rattle.registry_rows.specs.Rows.{Row}
use Rattle.registry_rows.specs.Steps.{set, unset}
use Rattle.registry_rows.specs.Ports.{own_rows}
use Rattle.c_registry.specs.declared.answer.Answer.{Answer}
use Rattle.c_registry.specs.declared.answer.Answer.TheVariants as answer
use Rattle.c_registry.specs.Held.{Held}

-- the registry's own rows are held, and no reply waits; nothing is held where memory was refused
abbrev pub IsStarted : (port : ℕ) → (left : Option Held) → Answer → Type 0
IsStarted port left (answer.Whole count) = (count ≡ 0) × (left ≡ Some (record { rows = own_rows port; waits = None }))
IsStarted port left answer.NoMemory = left ≡ None
IsStarted port left _ = ⊥

-- the row is added; or it may not be, or memory was refused, and all stays
abbrev pub IsSet : Held → Row → (left : Held) → Answer → Type 0
IsSet h r left (answer.Whole count) =
    (count ≡ 0) × (length r.owner ≤ 10) × ((left.rows, true) ≡ set h.rows r) × (left.waits ≡ h.waits)
IsSet h r left answer.Unchanged = (length r.owner ≤ 10 → (h.rows, false) ≡ set h.rows r) × (left ≡ h)
IsSet h r left answer.NoMemory = left ≡ h
IsSet h r left _ = ⊥

-- the same of a handle
abbrev pub IsSetBy : (held : Option Held) → Row → (left : Option Held) → Answer → Type 0
IsSetBy None r left a = (a ≡ answer.NoRegistry) × (left ≡ None)
IsSetBy (Some h) r left a = (l : Held) × (left ≡ Some l) × IsSet h r l a

-- the rows that it names are removed; or there are none, and all stays
abbrev pub IsUnset : Held → (prog vers : ℕ) → (netid owner : List ℕ) → (left : Held) → Answer → Type 0
IsUnset h prog vers netid owner left (answer.Whole count) =
    (count ≡ 0) × ((left.rows, true) ≡ unset h.rows prog vers netid owner) × (left.waits ≡ h.waits)
IsUnset h prog vers netid owner left answer.Unchanged =
    ((h.rows, false) ≡ unset h.rows prog vers netid owner) × (left ≡ h)
IsUnset h prog vers netid owner left _ = ⊥

-- the same of a handle
abbrev pub IsUnsetBy : (held : Option Held) → (prog vers : ℕ) → (netid owner : List ℕ) → (left : Option Held) → Answer
    → Type 0
IsUnsetBy None prog vers netid owner left a = (a ≡ answer.NoRegistry) × (left ≡ None)
IsUnsetBy (Some h) prog vers netid owner left a = (l : Held) × (left ≡ Some l) × IsUnset h prog vers netid owner l a
