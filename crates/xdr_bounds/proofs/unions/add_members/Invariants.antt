use Rattle.std.proofs.Common.{◌≡◌, ℤ, true, drop, map, ◌⊎◌}
use Rattle.xdr_types.specs.KindViews.{constant_of}
use Rattle.xdr_types.specs.Fits.{is_constant}
use Rattle.xdr_bounds.specs.Private.Unions.{Adds, IsSeen}
use Rattle.xdr_bounds.proofs.unions.add_members.Given as goal

abbrev pub invariant-loop-member : goal.invariant-loop-member
invariant-loop-member l = record {
  adds : Adds l.choice.schema.now.kinds l.choice.id.place l.choice.tag.place l.fn.parts.items l.parts.items;
  seen : (z : ℤ) → is_constant (map constant_of l.members) z ≡ true
      → (is_constant (map constant_of (drop l.member-index l.members)) z ≡ true)
      ⊎ IsSeen l.choice.schema.now.kinds l.choice.id.place l.choice.tag.place l.parts.items z;
}
