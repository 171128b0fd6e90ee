use Rattle.std.proofs.Common.{◌≡◌, ℤ, option_map, ap, rules, w64, to_z, of_z}
use Rattle.xdr_types.specs.KindViews.{part_of_member}
use Rattle.xdr_bounds.proofs.Picking.{default_number}
use Rattle.xdr_bounds.proofs.unions.number_of_default.Goals as goal

pub returns-in-Some : goal.returns-in-Some
returns-in-Some c =
    let u = c.args.choice.now in
    let low : to_z w64 (of_z w64 c.args.low) ≡ c.args.low = search rules in
    let high : to_z w64 (of_z w64 c.args.high) ≡ c.args.high = search rules in
    default_number u.schema.now.kinds u.id.place (option_map part_of_member c.args.other.now)
    (part_of_member c.in-Some.default) c.first_under.result c.args.low c.args.high (to_z w64 (of_z w64 c.args.low))
    (to_z w64 (of_z w64 c.args.high)) (ap (option_map part_of_member) c.in-Some.is) low high c.first_under.ensures
