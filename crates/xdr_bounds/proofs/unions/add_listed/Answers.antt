use Rattle.std.proofs.Common.{◌≡◌, ℕ, ◌+◌, ◌||◌, ℤ, pos, List, [], ◌∷◌, length, drop, get_or, Bool, true, false, int_eq}
use Rattle.std.proofs.Common.{refl, sym, subst, ◌∙◌, rules, arith, w64, to_z, of_z}
use Rattle.std.proofs.lemmas.Int.{to_z-of_z}
use Rattle.xdr_types.specs.Fits.{is_listed}
use Rattle.xdr_bounds.specs.Private.Unions.{IsSeen}
use Rattle.xdr_bounds.proofs.Picking.{adds_trans, one_more, all_seen, same_number}
use Rattle.xdr_bounds.proofs.unions.add_listed.Goals as goal

pub returns-in_err-add-clause-adds : goal.returns-in_err-add-clause-adds
returns-in_err-add-clause-adds c =
    let u = c.args.choice.now in
    adds_trans u.schema.now.kinds u.id.place u.tag.place c.args.parts.now.items c.loop-case.parts.items
    c.add.new.parts.items c.loop-case.invariant.adds c.in_err-add.ensures.adds

pub loop-case-preserved : goal.loop-case-preserved
loop-case-preserved c =
    let u = c.args.choice.now in
    let kinds = u.schema.now.kinds in
    let cs = c.args.cases.now in
    let new = c.add.new.parts.items in
    let number = get_or cs c.loop-case.case-index (pos 0) in
    let back : to_z w64 (of_z w64 number) ≡ number = first_of (search rules, grind (arith, to_z-of_z)) in
    record {
      adds = adds_trans kinds u.id.place u.tag.place c.args.parts.now.items c.loop-case.parts.items new
          c.loop-case.invariant.adds c.in_ok-add.ensures.adds;
      seen = one_more kinds u.id.place u.tag.place c.loop-case.parts.items new is_listed (λ (x z : ℤ). int_eq x z) cs
          c.loop-case.case-index (pos 0) c.loop-case-test.true (λ x ys z. refl) c.in_ok-add.ensures.adds
          (λ z e. subst (λ (y : ℤ). IsSeen kinds u.id.place u.tag.place new y) (back ∙ same_number number z e)
          c.in_ok-add.ensures.seen) c.loop-case.invariant.seen;
    }

pub returns : goal.returns
returns c =
    let u = c.args.choice.now in
    record {
      adds = c.loop-case.invariant.adds;
      seen = all_seen u.schema.now.kinds u.id.place u.tag.place c.loop-case.parts.items is_listed c.args.cases.now
          c.loop-case.case-index c.loop-case-test.false (λ z. refl) c.loop-case.invariant.seen;
    }
