use Rattle.std.proofs.Common.{◌≡◌, ℕ, ℤ, ◌≤ℤ◌, ◌<ℤ◌, List, map, option_map, true, sym, subst, rules, w64, to_z, of_z}
use Rattle.std.proofs.lemmas.Result.{on_ok_weaker}
use Rattle.xdr_types.specs.KindViews.{branch_of, part_of_member}
use Rattle.xdr_types.specs.Sound.{has_arm}
use Rattle.xdr_types.specs.declared.kind.Arm.{Arm}
use Rattle.xdr_bounds.specs.Private.Unions.{IsSeen}
use Rattle.xdr_bounds.proofs.Picking.{adds_trans, seen_still, all_numbers, default_seen}
use Rattle.xdr_bounds.proofs.unions.add_numbers.Goals as goal

pub returns-in-Some : goal.returns-in-Some
returns-in-Some c =
    let u = c.args.choice.now in
    let kinds = u.schema.now.kinds in
    let arms = c.args.arms.now.items in
    let other = option_map part_of_member c.args.other.now in
    let low : to_z w64 (of_z w64 c.args.low) ≡ c.args.low = search rules in
    let high : to_z w64 (of_z w64 c.args.high) ≡ c.args.high = search rules in
    let mid = c.add_cases.new.parts.items in
    let new = c.add.new.parts.items in
    let number = c.in-Some.number in
    let back : to_z w64 (of_z w64 number) ≡ number = search rules in
    let found = c.in-Some.ensures in
    let listed : (z : ℤ) → has_arm (map branch_of arms) z ≡ true → IsSeen kinds u.id.place u.tag.place new z =
    λ z e. seen_still kinds u.id.place u.tag.place mid new z c.add.ensures.adds
    (c.in_ok-add_cases.ensures.seen z
    (subst (λ (xs : List Arm). has_arm (map branch_of xs) z ≡ true) (sym c.deref.ensures.value) e)) in
    record {
      adds = adds_trans kinds u.id.place u.tag.place c.args.parts.now.items mid new c.in_ok-add_cases.ensures.adds
          c.add.ensures.adds;
      seen = on_ok_weaker c.add.result
          (λ seen. all_numbers kinds u.id.place u.tag.place (map branch_of arms) other new c.requires.is listed
          (λ z legal p is picks. default_seen kinds u.id.place u.tag.place other new number
          ((c.requires.legal number).1 (
            subst (λ (y : ℤ). y ≤ℤ number) low found.0,
            subst (λ (y : ℤ). number <ℤ y) high found.1,
          )) found.2 (subst (λ (y : ℤ). IsSeen kinds u.id.place u.tag.place new y) back seen) p is)) c.add.ensures.seen;
    }

pub returns-in-None : goal.returns-in-None
returns-in-None c =
    let u = c.args.choice.now in
    let kinds = u.schema.now.kinds in
    let arms = c.args.arms.now.items in
    let other = option_map part_of_member c.args.other.now in
    let low : to_z w64 (of_z w64 c.args.low) ≡ c.args.low = search rules in
    let high : to_z w64 (of_z w64 c.args.high) ≡ c.args.high = search rules in
    let new = c.add_cases.new.parts.items in
    let listed : (z : ℤ) → has_arm (map branch_of arms) z ≡ true → IsSeen kinds u.id.place u.tag.place new z =
    λ z e. c.in_ok-add_cases.ensures.seen z
    (subst (λ (xs : List Arm). has_arm (map branch_of xs) z ≡ true) (sym c.deref.ensures.value) e) in
    record {
      adds = c.in_ok-add_cases.ensures.adds;
      seen = all_numbers kinds u.id.place u.tag.place (map branch_of arms) other new c.requires.is listed
          (λ z legal p is picks. let bounds = (c.requires.legal z).0 legal in
          absurd (c.in-None.ensures z (subst (λ (y : ℤ). y ≤ℤ z) (sym low) bounds.0)
          (subst (λ (y : ℤ). z <ℤ y) (sym high) bounds.1) (p, is, picks)));
    }
