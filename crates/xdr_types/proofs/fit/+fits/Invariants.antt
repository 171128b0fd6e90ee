use Rattle.std.proofs.Common.{◌≡◌, drop, length, map, replicate}
use Rattle.xdr_types.specs.Fits.{item_part}
use Rattle.xdr_types.specs.KindViews.{part_of_member}
use Rattle.xdr_types.specs.View.{values}
use Rattle.xdr_types.specs.Private.Judged.{fit_within}
use Rattle.xdr_types.proofs.fit.+fits.Given as goal

abbrev pub invariant-are_values-loop-value : goal.invariant-are_values-loop-value
invariant-are_values-loop-value l =
    let rest = drop l.value-index l.value-items in
    fit_within l.schema.kinds (replicate (length rest) (item_part l.id.place)) (values rest) l.most ≡ fit_within
    l.schema.kinds (replicate (length l.value-items) (item_part l.id.place)) (values l.value-items) l.most

abbrev pub invariant-each_is_value-loop-i : goal.invariant-each_is_value-loop-i
invariant-each_is_value-loop-i l = record {
  lengths : length l.fields.items ≡ length l.parts.items;
  rest : fit_within l.schema.kinds (map part_of_member (drop l.i l.fields.items))
      (values (drop l.i l.parts.items)) l.most ≡ fit_within l.schema.kinds (map part_of_member l.fields.items)
      (values l.parts.items) l.most;
}
