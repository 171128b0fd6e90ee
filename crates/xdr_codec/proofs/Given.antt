-- A decoder was given some bytes, so what it counts, and that it takes no memory, needs no word of which.
use Rattle.std.proofs.Common.{◌≡◌, ℕ, subst}
use Rattle.std.specs.Prelude.{Result, Ok, Err, IfErr}
use Rattle.std.proofs.Math.Logic.{∥∥₁_elim}
use native.Mathlib.Nat.{ℕ_set}
use Rattle.xdr_types.specs.Kinds.{KindView}
use Rattle.xdr_stream.specs.Held.{IsCount}
use Rattle.xdr_stream.specs.Spared.{TakesNone, Spares}
use Rattle.xdr_stream.specs.declared.fault.DecodeFault.{DecodeFault}
use Rattle.xdr_stream.specs.declared.fault.Reason.{Reason}
use Rattle.xdr_stream.specs.declared.fault.Reason.TheVariants.{NoMemory}
use Rattle.xdr_stream.specs.declared.reader.Progress.{Progress}
use Rattle.xdr_stream.specs.declared.holding.Held.{Held}
use Rattle.xdr_stream.specs.declared.reader.Reader.{Reader}

pub counted : {B S : Type 0} (r : Reader B) (nodes bytes : ℕ) (h : Held) → ∥ S ∥₁ → (S → IsCount r nodes bytes h)
    → IsCount r nodes bytes h
counted r nodes bytes h some each = record {
  frames = ∥∥₁_elim some (ℕ_set _ _) (λ s. (each s).frames);
  nodes_are = ∥∥₁_elim some (ℕ_set _ _) (λ s. (each s).nodes_are);
  bytes_are = ∥∥₁_elim some (ℕ_set _ _) (λ s. (each s).bytes_are);
  pending = ∥∥₁_elim some (ℕ_set _ _) (λ s. (each s).pending);
}

-- an allocation failure is not answered where none is taken
pub granted : {S : Type 0} (z : Type 0) (k : KindView) (r : Result Progress DecodeFault) → ∥ S ∥₁
    → (S → IfErr r (λ f. Spares z k f.why)) → TakesNone z k → IfErr r (λ f. f.why ≡ NoMemory → ⊥)
granted z k (Ok p) some each free = tt
granted z k (Err f) some each free = λ is.
    ∥∥₁_elim some (λ x y. absurd x) (λ s. subst (λ (w : Reason). Spares z k w) is (each s) free)
