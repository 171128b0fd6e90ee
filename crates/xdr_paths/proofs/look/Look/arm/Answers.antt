use Rattle.std.proofs.Common.{◌≡◌, ℤ, ◌∙◌, ap, sym, refl, Some, None, arith, to_z, of_z, w64}
use Rattle.std.proofs.lemmas.Int.{to_z-of_z}
use Rattle.xdr_types.specs.Fits.{part_in}
use Rattle.xdr_types.specs.Kinds.{kind_at}
use Rattle.xdr_types.specs.KindViews.{part_of_member}
use Rattle.xdr_paths.proofs.Named.{unit_there, choice_unit, no_arm, other_arm, arm_found}
use Rattle.xdr_paths.proofs.look.Look.arm.Goals as goal

pub unit_at-requires : goal.unit_at-requires
unit_at-requires c =
    unit_there c.args.self.now.schema.now.kinds c.args.self.now.limits c.args.self.now.bytes.now c.args.spot.now
    c.requires.stands.0 c.requires.stands.1 (kind_at c.args.self.now.schema.now.kinds c.args.spot.now.kind.place) refl
    (choice_unit c.args.self.now.schema.now.kinds c.args.self.now.limits c.args.self.now.bytes.now _ c.args.tag.place
    c.requires.choice)

pub returns-in_default : goal.returns-in_default
returns-in_default c =
    λ n st.
    let kinds = c.args.self.now.schema.now.kinds in
    let z = c.discriminant-number.result in
    let back : to_z w64 (of_z w64 z) ≡ z = grind (arith, to_z-of_z) in
    no_arm kinds c.args.self.now.limits c.args.self.now.bytes.now c.args.spot.now n st c.args.tag.place
    c.unit_at.result c.requires.choice c.unit_at.type_inv c.unit_at.ensures None
    (c.in_default.ensures ∙ ap (λ (z : ℤ). part_in (kind_at kinds c.args.spot.now.kind.place) z)
    (back ∙ c.discriminant-number.ensures)) c.args.name.now refl

pub returns-then-is_named : goal.returns-then-is_named
returns-then-is_named c =
    λ n st.
    let kinds = c.args.self.now.schema.now.kinds in
    let z = c.discriminant-number.result in
    let back : to_z w64 (of_z w64 z) ≡ z = grind (arith, to_z-of_z) in
    let p = part_of_member c.in-Some.member.now in
    arm_found kinds c.args.self.now.limits c.args.self.now.bytes.now c.args.spot.now n st c.args.tag.place
    c.unit_at.result c.requires.choice c.unit_at.type_inv c.unit_at.ensures (Some p)
    (c.in-Some.ensures ∙ ap (λ (z : ℤ). part_in (kind_at kinds c.args.spot.now.kind.place) z)
    (back ∙ c.discriminant-number.ensures)) p c.args.name.now c.spot_of.result refl
    (sym c.is_named.ensures ∙ c.if-is_named.true) c.spot_of.ensures.at c.spot_of.ensures.depth
    c.spot_of.ensures.kind c.spot_of.ensures.name

pub returns : goal.returns
returns c =
    λ n st.
    let kinds = c.args.self.now.schema.now.kinds in
    let z = c.discriminant-number.result in
    let back : to_z w64 (of_z w64 z) ≡ z = grind (arith, to_z-of_z) in
    let p = part_of_member c.in-Some.member.now in
    other_arm kinds c.args.self.now.limits c.args.self.now.bytes.now c.args.spot.now n st c.args.tag.place
    c.unit_at.result c.requires.choice c.unit_at.type_inv c.unit_at.ensures (Some p)
    (c.in-Some.ensures ∙ ap (λ (z : ℤ). part_in (kind_at kinds c.args.spot.now.kind.place) z)
    (back ∙ c.discriminant-number.ensures)) p c.args.name.now refl (sym c.is_named.ensures ∙ c.if-is_named.false)
