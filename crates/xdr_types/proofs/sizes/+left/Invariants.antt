use Rattle.std.proofs.Common.{◌≡◌, ◌+◌, drop, map, true, length, replicate}
use Rattle.xdr_types.specs.KindViews.{part_of_member}
use Rattle.xdr_types.specs.Fits.{fit, item_part}
use Rattle.xdr_types.specs.Spelling.{spelling}
use Rattle.xdr_types.specs.View.{values}
use Rattle.xdr_types.proofs.sizes.+left.Given as goal

abbrev pub invariant-left_after_items-loop-value : goal.invariant-left_after_items-loop-value
invariant-left_after_items-loop-value l =
    let rest = drop l.value-index l.value-items in
    let item = item_part l.id.place in
    record {
      fit : fit l.schema.kinds (replicate (length rest) item) (values rest) ≡ true;
      reported : l.left + length (spelling l.schema.kinds (replicate (length l.value-items) item)
          (values l.value-items)) ≡ l.space + length
          (spelling l.schema.kinds (replicate (length rest) item) (values rest));
    }

abbrev pub invariant-left_after_parts-loop-i : goal.invariant-left_after_parts-loop-i
invariant-left_after_parts-loop-i l =
    let ps = map part_of_member (drop l.i l.fields.items) in
    let rest = values (drop l.i l.parts.items) in
    record {
      fit : fit l.schema.kinds ps rest ≡ true;
      reported : l.left + length (spelling l.schema.kinds (map part_of_member l.fields.items)
          (values l.parts.items)) ≡ l.space + length (spelling l.schema.kinds ps rest);
    }
