-- Which bytes a reader has been given, and what its answers say of them.
use Rattle.std.specs.Prelude.{◌≡◌, ℕ, ◌+◌, ◌<◌, ◌≤◌, List, [], ◌∷◌, ◌++◌, length, take, ⊤, Result, Ok, Err}
use Rattle.std.specs.Prelude.{IfOk, IfErr}
use Rattle.xdr_types.specs.Kinds.{KindView, Part, kind_at}
use Rattle.xdr_types.specs.Tree.{Tree}
use Rattle.xdr_types.specs.Within.{Bounds}
use Rattle.xdr_types.specs.Outcome as outcome
use Rattle.xdr_types.specs.Outcome.{Outcome}
use Rattle.xdr_stream.specs.Trace.{Trace, at_start}
use Rattle.xdr_stream.specs.Frames.{stack_of}
use Rattle.xdr_stream.specs.Sees.{Sees, IsReady, Ends}
use Rattle.xdr_stream.specs.Spared.{Spares}
use Rattle.xdr_stream.specs.declared.fault.DecodeFault.{DecodeFault}
use Rattle.xdr_stream.specs.declared.machine.Awaits.TheVariants.{Next}
use Rattle.xdr_stream.specs.declared.reader.State.{State}
use Rattle.xdr_stream.specs.declared.reader.State.TheVariants.{Fresh, Reading, Finished, Failed}
use Rattle.xdr_stream.specs.declared.reader.Progress.{Progress}
use Rattle.xdr_stream.specs.declared.reader.Progress.TheVariants.{More, Done}
use Rattle.xdr_stream.specs.declared.reader.Reader.{Reader}

-- unless memory was refused, the bytes b end so, however they go on, and no place lies behind them
abbrev pub Fails : List KindView → (kind : ℕ) → Bounds → DecodeFault → (b : List ℕ) → Type 0
Fails kinds kind limits f b = ((rest : List ℕ) → Ends kinds kind limits f.why (b ++ rest) f.at) × (f.at ≤ length b)

-- The bytes b brought a reader to this state: the units that are read, and those of an unfinished unit, of which there
-- are so many in its space. One that has failed holds no more than a new one, and its fault is no allocation failure
-- where its kind takes no memory.
abbrev pub RepresentsAs : (spares : Type 0) → List KindView → (kind : ℕ) → Bounds → (H : Trace → Type 0)
    → List (List Part) → (read : ℕ) → (space : List ℕ) → (pending : ℕ) → State → (b : List ℕ) → Type 0
RepresentsAs spares kinds kind limits H fs read space pending Fresh b =
    (b ≡ []) × (read ≡ 0) × (pending ≡ 0) × Sees kinds kind limits H Next fs [] × H at_start × (length fs ≡ 1)
RepresentsAs spares kinds kind limits H fs read space pending (Reading a) b =
    (q : List ℕ) × (b ≡ q ++ take pending space) × (length q ≡ read) × (pending < 4)
    × Sees kinds kind limits H a fs q × IsReady kinds limits a fs × (length q ≡ limits.bytes → ⊥)
RepresentsAs spares kinds kind limits H fs read space pending Finished b =
    (length b ≡ read) × (fs ≡ [] ∷ []) × Sees kinds kind limits H Next fs b
RepresentsAs spares kinds kind limits H fs read space pending (Failed f) b =
    Fails kinds kind limits f b × H at_start × (length fs ≡ 1) × Spares spares (kind_at kinds kind) f.why

-- a reader's fields stand for these bytes, all that it was given up to the value's end
abbrev pub RepresentsBytes : {B : Type 0} → (spares : Type 0) → (reports : B → Trace → Type 0) → Reader B → (b : List ℕ)
    → Type 0
RepresentsBytes spares reports r b =
    RepresentsAs spares r.schema.now.kinds r.kind.place r.limits (reports r.built) (stack_of r.work r.parents.items)
    r.read r.unit r.pending r.state b

-- reading has begun
abbrev pub IsAwake : State → Type 0
IsAwake Fresh = ⊥
IsAwake _ = ⊤

-- a unit is needed
abbrev pub IsWaiting : State → Type 0
IsWaiting (Reading a) = ⊤
IsWaiting _ = ⊥

-- the settings stay
pub record IsSame {B : Type 0} (a b : Reader B) : Type 0 where
  pub schema_is : b.schema.now ≡ a.schema.now
  pub kind_is : b.kind ≡ a.kind
  pub limits_are : b.limits ≡ a.limits

-- what a call takes of its piece: all of it, or the bytes up to the value's end
abbrev pub taken : List ℕ → Result Progress DecodeFault → List ℕ
taken piece (Ok More) = piece
taken piece (Ok (Done used)) = take used piece
taken piece (Err f) = piece

abbrev pub used_of : Progress → ℕ
used_of More = 0
used_of (Done used) = used

-- what an answer says of the bytes before a piece and those of the piece: the outcome of them all
abbrev pub Answers : List KindView → (kind : ℕ) → Bounds → (b piece : List ℕ) → Result Progress DecodeFault → Type 0
Answers kinds kind limits b piece (Ok More) = Outcome kinds kind limits (b ++ piece) outcome.Pending
Answers kinds kind limits b piece (Ok (Done used)) =
    (v : Tree) × Outcome kinds kind limits (b ++ piece) (outcome.Whole v (length b + used))
Answers kinds kind limits b piece (Err f) = Fails kinds kind limits f (b ++ piece)

-- what an answer to a piece leaves: no more of the piece was used than it has, and the state says what was answered
pub record Leaves {B : Type 0} (r : Reader B) (piece : List ℕ) (answer : Result Progress DecodeFault) : Type 0 where
  pub used : IfOk answer (λ p. used_of p ≤ length piece)
  pub more : IfOk answer (λ p. p ≡ More → IsWaiting r.state)
  pub done : IfOk answer (λ p. (used : ℕ) → p ≡ Done used → r.state ≡ Finished)
  pub failed : IfErr answer (λ f. r.state ≡ Failed f)

-- an answer that was the last one comes again: nothing of a later piece is used after the value, a fault stays
pub record Stays {B : Type 0} (r : Reader B) (answer : Result Progress DecodeFault) : Type 0 where
  pub again : r.state ≡ Finished → answer ≡ Ok (Done 0)
  pub for_ever : (f : DecodeFault) → r.state ≡ Failed f → answer ≡ Err f
