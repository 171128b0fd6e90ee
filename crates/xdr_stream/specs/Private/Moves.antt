-- How reading moves on: what each step keeps, takes, refuses or asks for.
use Rattle.std.specs.Prelude.{◌≡◌, ℕ, ◌==◌, ◌&&◌, Bool, true, false, List, [], ◌∷◌, ◌++◌, length, ⊤, Option, Some, None}
use Rattle.xdr_types.specs.Kinds.{KindView, Part, kind_at}
use Rattle.xdr_types.specs.Within.{Bounds}
use Rattle.xdr_types.specs.Outcome as outcome
use Rattle.xdr_types.specs.Outcome.{Outcome}
use Rattle.xdr_stream.specs.Trace.{Trace}
use Rattle.xdr_stream.specs.Sees.{Sees, IsReady, Ends}
use Rattle.xdr_stream.specs.Spared.{Spares}
use Rattle.xdr_stream.specs.Private.Live.{IsLive}
use Rattle.xdr_stream.specs.declared.fault.Reason.{Reason}
use Rattle.xdr_stream.specs.declared.fault.Reason.TheVariants as reason
use Rattle.xdr_stream.specs.declared.machine.Awaits.{Awaits}
use Rattle.xdr_stream.specs.declared.machine.Awaits.TheVariants.{Next}
use Rattle.xdr_stream.specs.declared.machine.Trouble.{Trouble}
use Rattle.xdr_stream.specs.declared.machine.Trouble.TheVariants.{TooDeep, NoMemory}

-- what was seen is seen still, when the nodes at work have changed so
abbrev pub Follows : List KindView → (H : Trace → Type 0) → Awaits → List (List Part) → (I : Trace → Type 0) → Awaits
    → List (List Part) → Type 0
Follows kinds H a fs I b gs = (kind : ℕ) (limits : Bounds) (q : List ℕ) → Sees kinds kind limits H a fs q
    → Sees kinds kind limits I b gs q

-- the root has its value
abbrev pub EndsAs : Bool → List (List Part) → Type 0
EndsAs true fs = fs ≡ [] ∷ []
EndsAs false fs = ⊤

-- a node that is due is too deep
abbrev pub GoesDeep : List KindView → Bounds → (H : Trace → Type 0) → List (List Part) → Trouble → Type 0
GoesDeep kinds limits H fs TooDeep = (kind : ℕ) (q rest : List ℕ) → Sees kinds kind limits H Next fs q
    → Outcome kinds kind limits (q ++ rest) (outcome.TooDeep (length q))
GoesDeep kinds limits H fs NoMemory = ⊤

-- the reason that it is
abbrev pub reason_of : Trouble → Reason
reason_of TooDeep = reason.TooDeep
reason_of NoMemory = reason.NoMemory

-- a unit is taken: where reading was ready for it, it is read
abbrev pub TakesUnit : List KindView → (H : Trace → Type 0) → Awaits → List (List Part) → (I : Trace → Type 0) → Awaits
    → List (List Part) → (unit : List ℕ) → Type 0
TakesUnit kinds H a fs I b gs u =
    (kind : ℕ) (limits : Bounds) (q : List ℕ) → IsReady kinds limits a fs → (length q ≡ limits.bytes → ⊥)
    → Sees kinds kind limits H a fs q → Sees kinds kind limits I b gs (q ++ u)

-- or refused
abbrev pub RefusesUnit : List KindView → (H : Trace → Type 0) → Awaits → List (List Part) → (unit : List ℕ) → Reason
    → Type 0
RefusesUnit kinds H a fs u e =
    (kind : ℕ) (limits : Bounds) (q rest : List ℕ) → IsReady kinds limits a fs → (length q ≡ limits.bytes → ⊥)
    → Sees kinds kind limits H a fs q → Ends kinds kind limits e (q ++ (u ++ rest)) (length q)

-- where nothing more takes no byte: the value is whole, or a unit is needed
abbrev pub Settles : List KindView → (kind : ℕ) → Bounds → (H : Trace → Type 0) → List (List Part) → (q : List ℕ)
    → Option Awaits → Type 0
Settles kinds kind limits H fs q None = (fs ≡ [] ∷ []) × Sees kinds kind limits H Next fs q
Settles kinds kind limits H fs q (Some a) = Sees kinds kind limits H a fs q × IsReady kinds limits a fs

-- each is zero
abbrev pub are_zeros : List ℕ → Bool
are_zeros [] = true
are_zeros (b ∷ bs) = b == 0 && are_zeros bs

-- where reading stands so, the root's kind spares this reason
abbrev pub SparesSeen : (spares : Type 0) → List KindView → Bounds → (H : Trace → Type 0) → Awaits → List (List Part)
    → Reason → Type 0
SparesSeen spares kinds limits H a fs why =
    (kind : ℕ) (q : List ℕ) → Sees kinds kind limits H a fs q → Spares spares (kind_at kinds kind) why

-- a unit is taken, and content that comes next has bytes to come
pub record TookUnit (kinds : List KindView) (H : Trace → Type 0) (a : Awaits) (fs : List (List Part))
    (I : Trace → Type 0) (gs : List (List Part)) (unit : List ℕ) (b : Awaits) : Type 0 where
  pub live : IsLive b
  pub taken : TakesUnit kinds H a fs I b gs unit

-- a unit is refused, and the root's kind spares the reason, whatever the limits
pub record RefusedUnit (spares : Type 0) (kinds : List KindView) (H : Trace → Type 0) (a : Awaits)
    (fs : List (List Part)) (unit : List ℕ) (why : Reason) : Type 0 where
  pub refused : RefusesUnit kinds H a fs unit why
  pub spared : (limits : Bounds) → SparesSeen spares kinds limits H a fs why
