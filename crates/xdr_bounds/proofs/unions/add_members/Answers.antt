use Rattle.std.proofs.Common.{◌≡◌, ℕ, ◌+◌, ◌||◌, ℤ, List, length, drop, get_or, map, Bool, true, int_eq, String, refl}
use Rattle.std.proofs.Common.{sym, ap}
use Rattle.std.proofs.Common.{◌∙◌, subst}
use Rattle.std.proofs.Common.{rules, arith, w32, w64, to_z, of_z}
use Rattle.std.proofs.lemmas.Int.{to_z-of_z}
use Rattle.std.specs.declared.alloc.Global.{Global}
use Rattle.xdr_types.specs.KindViews.{constant_of}
use Rattle.xdr_types.specs.Fits.{is_constant}
use Rattle.xdr_bounds.specs.Private.Unions.{IsSeen}
use Rattle.xdr_bounds.proofs.Picking.{adds_trans, one_more, all_seen, same_number}
use Rattle.xdr_bounds.proofs.unions.add_members.Goals as goal

abbrev Member : Type 0
Member = String Global × ℤ

pub returns-in_err-add-clause-adds : goal.returns-in_err-add-clause-adds
returns-in_err-add-clause-adds c =
    let u = c.args.choice.now in
    adds_trans u.schema.now.kinds u.id.place u.tag.place c.args.parts.now.items c.loop-member.parts.items
    c.add.new.parts.items c.loop-member.invariant.adds c.in_err-add.ensures.adds

pub loop-member-preserved : goal.loop-member-preserved
loop-member-preserved c =
    let u = c.args.choice.now in
    let kinds = u.schema.now.kinds in
    let new = c.add.new.parts.items in
    let same : to_z w64 (of_z w64 c.from.result) ≡ c.from.result = first_of (search rules, grind (arith, to_z-of_z)) in
    let small : to_z w32 (of_z w32 c.member-item.result.1) ≡ c.member-item.result.1 =
    first_of (search rules, grind (arith, to_z-of_z)) in
    let number : c.from.result ≡ c.member-item.result.1 = grind (arith, c.from.ensures, small) in
    record {
      adds = adds_trans kinds u.id.place u.tag.place c.args.parts.now.items c.loop-member.parts.items new
          c.loop-member.invariant.adds c.in_ok-add.ensures.adds;
      seen = one_more kinds u.id.place u.tag.place c.loop-member.parts.items new
          (λ (xs : List Member) (z : ℤ). is_constant (map constant_of xs) z) (λ (m : Member) (z : ℤ). int_eq m.1 z)
          c.args.members.now c.loop-member.member-index c.member-item.result c.loop-member-test.true
          (λ x ys z. refl) c.in_ok-add.ensures.adds
          (λ z e. subst (λ (y : ℤ). IsSeen kinds u.id.place u.tag.place new y)
          (same ∙ number ∙ ap (λ (m : Member). m.1) c.member-item.is ∙ same_number _ z e)
          c.in_ok-add.ensures.seen) c.loop-member.invariant.seen;
    }

pub returns : goal.returns
returns c =
    let u = c.args.choice.now in
    record {
      adds = c.loop-member.invariant.adds;
      seen = all_seen u.schema.now.kinds u.id.place u.tag.place c.loop-member.parts.items
          (λ (xs : List Member) (z : ℤ). is_constant (map constant_of xs) z) c.args.members.now
          c.loop-member.member-index c.loop-member-test.false (λ z. refl) c.loop-member.invariant.seen;
    }
