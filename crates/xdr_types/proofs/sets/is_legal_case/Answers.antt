use Rattle.std.proofs.Common.{◌≡◌, w64, to_z, of_z, int_cmp, ap, ◌∙◌, arith, rules}
use Rattle.std.specs.BTreeSet.{contains}
use Rattle.xdr_types.specs.KindViews.{kind_view}
use Rattle.xdr_types.proofs.InSets.{numbered-tag, where_some}
use Rattle.xdr_types.proofs.Marks.{kind-read}
use Rattle.xdr_types.proofs.sets.is_legal_case.Goals as goal

pub returns-in-Numbered : goal.returns-in-Numbered
returns-in-Numbered c =
    let ks = c.args.kinds.now in
    let s = c.index-numbers-place.result in
    let same : to_z w64 (of_z w64 c.args.number) ≡ c.args.number = search rules in
    numbered-tag _ _ s c.args.number c.has_case.result
    (kind-read ks.items c.args.tag.place c.index.result.now
    (omega (arith, c.if-place-len.false, c.len.ensures, ks.ok.0)) c.index.ensures ∙ ap kind_view c.in-Numbered.is)
    (where_some _ s c.is_empty.result c.is_empty.ensures c.if-not-is_empty.true
    (c.requires c.args.tag.place s (omega arith) c.index-numbers-place.is))
    (c.has_case.ensures ∙ ap (contains int_cmp s) same)
