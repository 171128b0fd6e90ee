use Rattle.std.proofs.Common.{◌≡◌, List, ◌++◌, [], ◌∷◌, option_map, Option, Some, None, sym, ap, ◌∙◌, subst, refl}
use Rattle.std.proofs.Common.{rules, ℤ, w64, to_z, of_z}
use Rattle.xdr_types.specs.Kinds.{Part, kind_at}
use Rattle.xdr_types.specs.KindViews.{part_of_member}
use Rattle.xdr_types.specs.Fits.{part_in, is_tag_of}
use Rattle.xdr_types.specs.declared.kind.KindId.{KindId}
use Rattle.xdr_bounds.specs.Private.Unions.{IsSeen, Adds}
use Rattle.xdr_bounds.proofs.Picking.{adds_none, adds_one, seen_illegal, seen_none, seen_last}
use Rattle.xdr_bounds.proofs.unions.add.Goals as goal

pub returns-then-not-is_legal_tag : goal.returns-then-not-is_legal_tag
returns-then-not-is_legal_tag c =
    let u = c.args.choice.now in
    let kinds = u.schema.now.kinds in
    let ids = c.args.parts.now.items in
    let back : to_z w64 (of_z w64 c.args.number) ≡ c.args.number = search rules in
    record {
      adds = adds_none kinds u.id.place u.tag.place ids;
      seen = seen_illegal kinds u.id.place u.tag.place ids c.args.number
          (sym (ap (λ (z : ℤ). is_tag_of (kind_at kinds u.tag.place) z) back)
          ∙ (sym c.is_legal_tag.ensures ∙ c.if-not-is_legal_tag.true));
    }

pub returns-in-None : goal.returns-in-None
returns-in-None c =
    let u = c.args.choice.now in
    let kinds = u.schema.now.kinds in
    let ids = c.args.parts.now.items in
    let back : to_z w64 (of_z w64 c.args.number) ≡ c.args.number = search rules in
    record {
      adds = adds_none kinds u.id.place u.tag.place ids;
      seen = seen_none kinds u.id.place u.tag.place ids c.args.number
          (sym (ap (λ (z : ℤ). part_in (kind_at kinds u.id.place) z) back)
          ∙ (sym c.part_in.ensures ∙ ap (option_map (λ m. part_of_member m.now)) c.in-None.is));
    }

pub returns-in_ok-push-in-Some : goal.returns-in_ok-push-in-Some
returns-in_ok-push-in-Some c =
    let u = c.args.choice.now in
    let kinds = u.schema.now.kinds in
    let ids = c.args.parts.now.items in
    let back : to_z w64 (of_z w64 c.args.number) ≡ c.args.number = search rules in
    let m = c.in-Some.part.now in
    let under : part_in (kind_at kinds u.id.place) c.args.number ≡ Some (part_of_member m) =
    sym (ap (λ (z : ℤ). part_in (kind_at kinds u.id.place) z) back)
    ∙ (sym c.part_in.ensures ∙ ap (option_map (λ m. part_of_member m.now)) c.in-Some.is) in
    record {
      adds = subst (λ (xs : List KindId). Adds kinds u.id.place u.tag.place ids xs)
          (sym c.in_ok-push-in-Some.ensures.items)
          (adds_one kinds u.id.place u.tag.place ids m.kind c.args.number (part_of_member m)
          (sym (ap (λ (z : ℤ). is_tag_of (kind_at kinds u.tag.place) z) back)
          ∙ (sym c.is_legal_tag.ensures ∙ c.if-not-is_legal_tag.false)) under refl);
      seen = subst (λ (xs : List KindId). IsSeen kinds u.id.place u.tag.place xs c.args.number)
          (sym c.in_ok-push-in-Some.ensures.items)
          (seen_last kinds u.id.place u.tag.place ids m.kind c.args.number (part_of_member m) under refl);
    }
