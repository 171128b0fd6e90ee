use Rattle.std.proofs.Common.{◌≡◌, ℤ, Some, option_map, eqb-true, sym, ap, ◌∙◌, rules, w64, to_z, of_z}
use Rattle.xdr_types.specs.Kinds.{kind_at}
use Rattle.xdr_types.specs.KindViews.{part_of_member}
use Rattle.xdr_types.specs.Fits.{part_in}
use Rattle.xdr_bounds.proofs.unions.picks.Goals as goal

pub returns-in-Some-clause-yes : goal.returns-in-Some-clause-yes
returns-in-Some-clause-yes c = λ e.
    let u = c.args.choice.now in
    let kinds = u.schema.now.kinds in
    let m = c.in-Some.member.now in
    let back : to_z w64 (of_z w64 c.args.number) ≡ c.args.number = search rules in
    let under : part_in (kind_at kinds u.id.place) c.args.number ≡ Some (part_of_member m) =
    sym (ap (λ (z : ℤ). part_in (kind_at kinds u.id.place) z) back)
    ∙ (sym c.part_in.ensures ∙ ap (option_map (λ m. part_of_member m.now)) c.in-Some.is) in
    (part_of_member m, under, eqb-true m.kind.place c.args.part.place e)
