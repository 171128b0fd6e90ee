-- Before its first part a cursor awaits all parts of the value.
use Rattle.std.proofs.Common.{ℕ, List, [], ◌∷◌, take, drop, subst}
use Rattle.xdr_types.specs.Kinds.{Lists}
use Rattle.xdr_types.specs.Layout.{entries}
use Rattle.xdr_types.specs.Tree.{Tree}
use Rattle.xdr_types.specs.Fits.{item_part}
use Rattle.xdr_types.specs.Within.{Bounds, AreBounds}
use Rattle.xdr_types.specs.Faults.{IsWellFormed}
use Rattle.xdr_types.specs.Sound.{IsSound}
use Rattle.xdr_types.specs.Outcome.{Outcome, Whole}
use Rattle.xdr_laws.specs.Owed.{Completes}
use Rattle.xdr_laws.proofs.Known.{completion_of}
use Rattle.xdr_stream.specs.Frames.{dues}
use Rattle.xdr_parts.proofs.Judging.{spelled}

-- what is owed of a whole value that begins an input
pub owes_all : (schema : Lists) → IsWellFormed schema → IsSound schema.kinds → (kind : ℕ) (limits : Bounds)
    (input : List ℕ) (v : Tree) (used : ℕ) → AreBounds limits.depth limits.bytes
    → Outcome schema.kinds kind limits input (Whole v used)
    → Completes schema.kinds 0 (dues ((item_part kind ∷ []) ∷ [])) (drop 0 (take used input))
    (entries schema.kinds kind v)
owes_all schema well sound kind limits input v used range o =
    let f = spelled schema well sound kind limits input v used range o in
    subst (λ (b : List ℕ). Completes schema.kinds 0 (dues ((item_part kind ∷ []) ∷ [])) b (entries schema.kinds kind v))
    f.spelled (completion_of schema.kinds kind v f.fits)
