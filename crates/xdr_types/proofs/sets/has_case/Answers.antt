use Rattle.std.proofs.Common.{◌≡◌, w64, to_z, of_z, int_cmp, ap, ◌∙◌, rules}
use Rattle.std.specs.BTreeSet.{contains}
use Rattle.xdr_types.proofs.sets.has_case.Goals as goal

pub returns : goal.returns
returns c =
    let same : to_z w64 (of_z w64 c.args.case) ≡ c.args.case = search rules in
    c.contains.ensures ∙ ap (contains int_cmp c.args.cases.now) same
