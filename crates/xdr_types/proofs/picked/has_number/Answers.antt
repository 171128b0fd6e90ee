use Rattle.std.proofs.Common.{◌≡◌, w64, to_z, of_z, ap, ◌∙◌, is_some, rules}
use Rattle.xdr_types.specs.Private.Lookups.{first_at}
use Rattle.xdr_types.proofs.Found.{member-constant}
use Rattle.xdr_types.proofs.picked.has_number.Goals as goal

pub returns : goal.returns
returns c = λ constants finds.
    let same : to_z w64 (of_z w64 c.args.number) ≡ c.args.number = search rules in
    let listed = c.is_some.ensures
    ∙ ap is_some (c.index_in.ensures ∙ ap (first_at c.args.found.now.items) same ∙ finds c.args.number)
    ∙ member-constant 0 constants c.args.number in
    search (rules, listed)
