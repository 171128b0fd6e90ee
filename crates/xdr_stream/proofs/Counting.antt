-- The count of a value's bytes, where it was not made.
use Rattle.std.proofs.Common.{◌≡◌, ℕ, ◌%◌, ◌≤◌, List, [], length, append-nil, subst}
use Rattle.xdr_types.specs.Kinds.{KindView, Part}
use Rattle.xdr_types.specs.Tree.{Tree}
use Rattle.xdr_types.specs.Within.{Bounds}
use Rattle.xdr_types.specs.Outcome.{Outcome, Whole}
use Rattle.xdr_stream.specs.Trace.{Trace}
use Rattle.xdr_stream.specs.Represents.{RepresentsAs}
use Rattle.xdr_stream.specs.declared.reader.State.TheVariants.{Finished}
use Rattle.xdr_stream.proofs.Standing.{sees_whole, within_limit}

-- the value is whole in the bytes, and they are those of the units that are read, no more than the limit
pub counted_whole : (s : List KindView) (t : ℕ) (l : Bounds) (H : Trace → Type 0) (fs : List (List Part)) (read : ℕ)
    (space : List ℕ) (pending : ℕ) (b : List ℕ) → l.bytes % 4 ≡ 0
    → RepresentsAs ⊥ s t l H fs read space pending Finished b
    → ((v : Tree) × Outcome s t l b (Whole v (length b))) × (length b ≡ read) × (length b ≤ l.bytes)
counted_whole s t l H fs read space pending b units r =
    let w = sees_whole s t l H b fs [] r.1 r.2 in (
      (w.0, subst (λ (x : List ℕ). Outcome s t l x (Whole w.0 (length b))) (append-nil b) w.2),
      r.0,
      within_limit s t l _ b units r.2.reading,
    )
