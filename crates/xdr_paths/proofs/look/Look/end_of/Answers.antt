use Rattle.std.proofs.Common.{◌≡◌, ℤ, sym, refl, subst, ap, ◌∙◌, arith, to_z, of_z, w64}
use Rattle.std.proofs.lemmas.Int.{to_z-of_z}
use Rattle.xdr_types.specs.Kinds.{KindView, kind_at}
use Rattle.xdr_types.specs.KindViews.{kind_view, part_of_member}
use Rattle.xdr_types.specs.Fits.{part_in}
use Rattle.xdr_types.specs.declared.kind.Kind.{Kind}
use Rattle.xdr_paths.specs.Private.Standing.{IsChoice}
use Rattle.xdr_paths.proofs.Endings.{tag_there, arm_end}
use Rattle.xdr_paths.proofs.look.Look.end_of.Goals as goal

pub unit_at-requires : goal.unit_at-requires
unit_at-requires c =
    let kinds = c.args.self.now.schema.now.kinds in
    let tag = c.in-Choice.tag.place in
    let choice : IsChoice (kind_at kinds c.args.kind.place) tag =
    subst (λ (k : KindView). IsChoice k tag) c.kind.ensures
    (subst (λ (k : Kind). IsChoice (kind_view k) tag) (sym c.in-Choice.is) refl) in
    tag_there kinds c.args.self.now.limits c.args.self.now.bytes.now c.args.kind.place c.args.at c.requires.0
    c.requires.1 tag choice

pub end_of_part-requires-2 : goal.end_of_part-requires-2
end_of_part-requires-2 c =
    let kinds = c.args.self.now.schema.now.kinds in
    let tag = c.in-Choice.tag.place in
    let choice : IsChoice (kind_at kinds c.args.kind.place) tag =
    subst (λ (k : KindView). IsChoice k tag) c.kind.ensures
    (subst (λ (k : Kind). IsChoice (kind_view k) tag) (sym c.in-Choice.is) refl) in
    let z = c.discriminant-number.result in
    let back : to_z w64 (of_z w64 z) ≡ z = grind (arith, to_z-of_z) in
    let e = arm_end kinds c.args.self.now.limits c.args.self.now.bytes.now c.args.kind.place c.args.at c.requires.0
    c.requires.1 tag c.unit_at.result choice c.unit_at.type_inv c.unit_at.ensures
    (part_of_member c.in-Some.member.now)
    (c.in-Some.ensures ∙ ap (λ (y : ℤ). part_in (kind_at kinds c.args.kind.place) y)
    (back ∙ c.discriminant-number.ensures)) in
    (e.0, e.1)

pub returns : goal.returns
returns c =
    λ n s.
    let kinds = c.args.self.now.schema.now.kinds in
    let tag = c.in-Choice.tag.place in
    let choice : IsChoice (kind_at kinds c.args.kind.place) tag =
    subst (λ (k : KindView). IsChoice k tag) c.kind.ensures
    (subst (λ (k : Kind). IsChoice (kind_view k) tag) (sym c.in-Choice.is) refl) in
    let z = c.discriminant-number.result in
    let back : to_z w64 (of_z w64 z) ≡ z = grind (arith, to_z-of_z) in
    let e = arm_end kinds c.args.self.now.limits c.args.self.now.bytes.now c.args.kind.place c.args.at n s tag
    c.unit_at.result choice c.unit_at.type_inv c.unit_at.ensures (part_of_member c.in-Some.member.now)
    (c.in-Some.ensures ∙ ap (λ (y : ℤ). part_in (kind_at kinds c.args.kind.place) y)
    (back ∙ c.discriminant-number.ensures)) in
    let end = c.in_ok-end.ensures e.0 e.1 in
    omega (arith, end, e.2)
