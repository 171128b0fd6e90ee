use Rattle.std.proofs.Common.{◌≡◌, ℤ, true, drop, map, ◌⊎◌}
use Rattle.xdr_types.specs.KindViews.{branch_of}
use Rattle.xdr_types.specs.Sound.{has_arm}
use Rattle.xdr_bounds.specs.Private.Unions.{Adds, IsSeen}
use Rattle.xdr_bounds.proofs.unions.add_cases.Given as goal

abbrev pub invariant-loop-arm : goal.invariant-loop-arm
invariant-loop-arm l = record {
  adds : Adds l.choice.schema.now.kinds l.choice.id.place l.choice.tag.place l.fn.parts.items l.parts.items;
  seen : (z : ℤ) → has_arm (map branch_of l.arms) z ≡ true
      → (has_arm (map branch_of (drop l.arm-index l.arms)) z ≡ true)
      ⊎ IsSeen l.choice.schema.now.kinds l.choice.id.place l.choice.tag.place l.parts.items z;
}
