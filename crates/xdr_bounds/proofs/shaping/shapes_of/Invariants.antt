use Rattle.std.proofs.Common.{◌≡◌, ℕ, ◌<◌, length, slice_index_or}
use Rattle.xdr_types.specs.Kinds.{kind_at}
use Rattle.xdr_bounds.specs.Private.Shapes.{IsShape}
use Rattle.xdr_bounds.specs.declared.shape.Shape.{Shape}
use Rattle.xdr_bounds.proofs.shaping.shapes_of.Given as goal

abbrev pub invariant-loop-place : goal.invariant-loop-place
invariant-loop-place l = record {
  lengths : length l.shapes.items ≡ l.place;
  each : (q : ℕ) (s : Shape) → q < length l.shapes.items → s ≡ slice_index_or l.shapes.items q s
      → IsShape l.schema.kinds (kind_at l.schema.kinds q) s;
}
