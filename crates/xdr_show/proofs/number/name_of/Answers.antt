use Rattle.std.proofs.Common.{◌≡◌, ℤ, Some, None, rules, w64, to_z, of_z, subst, sym}
use Rattle.xdr_types.specs.Kinds.{KindView, kind_at}
use Rattle.xdr_types.specs.KindViews.{constant_of}
use Rattle.xdr_types.specs.Fits.{member_in}
use Rattle.xdr_show.proofs.Named.{name-found, name-missing}
use Rattle.xdr_show.proofs.number.name_of.Goals as goal

pub returns-in-Some : goal.returns-in-Some
returns-in-Some c = λ members is.
    let m = c.in-Some.member.now in
    let same : to_z w64 (of_z w64 c.args.number) ≡ c.args.number = search rules in
    let at_place = subst
    (λ (z : ℤ). Some (constant_of m) ≡ member_in (kind_at c.args.schema.now.kinds c.args.id.place) z)
    same c.in-Some.ensures in
    let found = subst (λ (f : KindView). Some (constant_of m) ≡ member_in f c.args.number) is at_place in
    let name = name-found members c.args.number (constant_of m) (sym found) in
    search (rules, name)

pub returns-in-None : goal.returns-in-None
returns-in-None c = λ members is.
    let same : to_z w64 (of_z w64 c.args.number) ≡ c.args.number = search rules in
    let at_place = subst (λ (z : ℤ). None ≡ member_in (kind_at c.args.schema.now.kinds c.args.id.place) z)
    same c.in-None.ensures in
    let found = subst (λ (f : KindView). None ≡ member_in f c.args.number) is at_place in
    let name = name-missing members c.args.number (sym found) in
    search (rules, name)
