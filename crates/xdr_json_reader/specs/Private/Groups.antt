-- What becomes of a node with parts.
use Rattle.std.specs.Prelude.{◌≡◌, ◌⊎◌, ℕ, pos, List, [], ◌∷◌, ◌++◌, Bool, true, false}
use Rattle.std.specs.Prelude.{Result, Ok, Err, MatchResult}
use Rattle.std.specs.Borrow.{Bor}
use Rattle.json.specs.Json as json
use Rattle.json.specs.Json.{Json, Members}
use Rattle.xdr_types.specs.Kinds as xdr
use Rattle.xdr_types.specs.Kinds.{KindView, Part}
use Rattle.xdr_units.specs.Numbers.{num4}
use Rattle.xdr_json.specs.Spelled.{under_arm}
use Rattle.xdr_json_reader.specs.Tape.{json_in}
use Rattle.xdr_json_reader.specs.Nodes.{Due}
use Rattle.xdr_json_reader.specs.Reasons.{Wrong, IsOfMembers, has_arm_alone}
use Rattle.xdr_json_reader.specs.Private.Pending.{Took}
use Rattle.xdr_json_reader.specs.declared.tape.Node.{Node}
use Rattle.xdr_json_reader.specs.declared.fault.JsonFault.{JsonFault}
use Rattle.xdr_json_reader.specs.declared.fault.JsonReason.{JsonReason}
use Rattle.xdr_json_reader.specs.declared.fault.JsonReason.TheVariants.{NoMemory}

-- it is read, or memory was refused, or the JSON value stands for no node of the kind, for that reason
abbrev pub NodeRead : {A : Type 0} → KindView → Json → (out new : List ℕ) → (due next : List Due)
    → Result A JsonReason → Type 0
NodeRead f j out new due next r =
    MatchResult r (λ _. (kinds : List KindView) → Took kinds f j out new due next)
    (λ w. (w ≡ NoMemory) ⊎ ((kinds : List KindView) → Wrong kinds f j w))

-- the same among these kinds
abbrev pub ReadAmong : {A : Type 0} → List KindView → KindView → Json → (out new : List ℕ) → (due next : List Due)
    → Result A JsonReason → Type 0
ReadAmong kinds f j out new due next r =
    MatchResult r (λ _. Took kinds f j out new due next) (λ w. (w ≡ NoMemory) ⊎ Wrong kinds f j w)

-- the same with the place of the refusal
abbrev pub ReadAt : {A : Type 0} → List KindView → KindView → Json → (out new : List ℕ) → (due next : List Due)
    → Result A JsonFault → Type 0
ReadAt kinds f j out new due next r =
    MatchResult r (λ _. Took kinds f j out new due next) (λ w. (w.why ≡ NoMemory) ⊎ Wrong kinds f j w.why)

-- an optional kind
abbrev pub is_maybe : KindView → Bool
is_maybe (xdr.maybe inner) = true
is_maybe _ = false

-- an item that is there was begun, or memory was refused
abbrev pub PresentPut : {A : Type 0} → ℕ → Json → (out new : List ℕ) → (due next : List Due) → Result A JsonReason
    → Type 0
PresentPut place j out new due next r =
    MatchResult r (λ _. (new ≡ out ++ num4 (pos 1)) × (next ≡ (place, j) ∷ due)) (λ w. w ≡ NoMemory)

-- the value of an arm
abbrev pub ArmRead : List KindView → Part → Members → Result (Bor Node) JsonFault → Type 0
ArmRead kinds p ms r =
    MatchResult r
    (λ n. (has_arm_alone kinds p ms ≡ true) × (under_arm kinds (p ∷ []) (json.object ms) ≡ json_in n.now ∷ []))
    (λ f. (has_arm_alone kinds p ms ≡ false) × IsOfMembers f.why)

-- the same answer, with a place beside a refusal
abbrev pub Placed : {A B : Type 0} → Result A JsonReason → Result B JsonFault → Type 0
Placed (Ok x) r = MatchResult r (λ _. Unit {0}) (λ f. ⊥)
Placed (Err w) r = MatchResult r (λ _. ⊥) (λ f. f.why ≡ w)
