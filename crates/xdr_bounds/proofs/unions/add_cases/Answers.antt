use Rattle.std.proofs.Common.{◌≡◌, ℕ, ◌+◌, ◌||◌, ℤ, List, length, drop, get_or, map, Bool, true, refl, sym, subst}
use Rattle.xdr_types.specs.KindViews.{branch_of}
use Rattle.xdr_types.specs.Fits.{is_listed}
use Rattle.xdr_types.specs.Sound.{has_arm}
use Rattle.xdr_types.specs.declared.kind.Arm.{Arm}
use Rattle.xdr_bounds.proofs.Picking.{adds_trans, one_more, all_seen}
use Rattle.xdr_bounds.proofs.unions.add_cases.Goals as goal

pub returns-in_err-add_listed-clause-adds : goal.returns-in_err-add_listed-clause-adds
returns-in_err-add_listed-clause-adds c =
    let u = c.args.choice.now in
    adds_trans u.schema.now.kinds u.id.place u.tag.place c.args.parts.now.items c.loop-arm.parts.items
    c.add_listed.new.parts.items c.loop-arm.invariant.adds c.in_err-add_listed.ensures.adds

pub loop-arm-preserved : goal.loop-arm-preserved
loop-arm-preserved c =
    let u = c.args.choice.now in
    let kinds = u.schema.now.kinds in
    let arms = c.args.arms.now in
    let new = c.add_listed.new.parts.items in
    record {
      adds = adds_trans kinds u.id.place u.tag.place c.args.parts.now.items c.loop-arm.parts.items new
          c.loop-arm.invariant.adds c.in_ok-add_listed.ensures.adds;
      seen = one_more kinds u.id.place u.tag.place c.loop-arm.parts.items new
          (λ (xs : List Arm) (z : ℤ). has_arm (map branch_of xs) z)
          (λ (a : Arm) (z : ℤ). is_listed a.cases.items z) arms
          c.loop-arm.arm-index c.arm-item.result c.loop-arm-test.true (λ x ys z. refl) c.in_ok-add_listed.ensures.adds
          (λ z e. c.in_ok-add_listed.ensures.seen z
          (subst (λ (cs : List ℤ). is_listed cs z ≡ true) (sym c.deref.ensures.value)
          (subst (λ (a : Arm). is_listed a.cases.items z ≡ true) (sym c.arm-item.is) e))) c.loop-arm.invariant.seen;
    }

pub returns : goal.returns
returns c =
    let u = c.args.choice.now in
    record {
      adds = c.loop-arm.invariant.adds;
      seen = all_seen u.schema.now.kinds u.id.place u.tag.place c.loop-arm.parts.items
          (λ (xs : List Arm) (z : ℤ). has_arm (map branch_of xs) z) c.args.arms.now
          c.loop-arm.arm-index c.loop-arm-test.false (λ z. refl) c.loop-arm.invariant.seen;
    }
