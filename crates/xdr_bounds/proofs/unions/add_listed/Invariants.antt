use Rattle.std.proofs.Common.{◌≡◌, ℤ, true, drop, ◌⊎◌}
use Rattle.xdr_types.specs.Fits.{is_listed}
use Rattle.xdr_bounds.specs.Private.Unions.{Adds, IsSeen}
use Rattle.xdr_bounds.proofs.unions.add_listed.Given as goal

abbrev pub invariant-loop-case : goal.invariant-loop-case
invariant-loop-case l = record {
  adds : Adds l.choice.schema.now.kinds l.choice.id.place l.choice.tag.place l.fn.parts.items l.parts.items;
  seen : (z : ℤ) → is_listed l.cases z ≡ true
      → (is_listed (drop l.case-index l.cases) z ≡ true) ⊎ IsSeen l.choice.schema.now.kinds l.choice.id.place
      l.choice.tag.place l.parts.items z;
}
