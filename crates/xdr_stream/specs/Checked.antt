-- What the end of the bytes says of a value that was not made.
use Rattle.std.specs.Prelude.{◌≡◌, ℕ, List, length, Result, Ok, Err}
use Rattle.xdr_types.specs.Kinds.{KindView}
use Rattle.xdr_types.specs.Tree.{Tree}
use Rattle.xdr_types.specs.Within.{Bounds}
use Rattle.xdr_types.specs.Outcome as outcome
use Rattle.xdr_types.specs.Outcome.{Outcome}
use Rattle.xdr_stream.specs.Finish.{EndsWith}
use Rattle.xdr_stream.specs.declared.fault.DecodeFault.{DecodeFault}

-- the end of the bytes b counts the bytes of the value that is whole in them, or is a fault
abbrev pub Counts : List KindView → (kind : ℕ) → Bounds → (b : List ℕ) → Result ℕ DecodeFault → Type 0
Counts kinds kind limits b (Ok n) = ((v : Tree) × Outcome kinds kind limits b (outcome.Whole v (length b)))
    × (n ≡ length b)
Counts kinds kind limits b (Err f) = EndsWith kinds kind limits b f
