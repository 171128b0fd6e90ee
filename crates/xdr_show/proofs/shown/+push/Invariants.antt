use Rattle.std.proofs.Common.{◌≡◌, ◌+◌, ◌≤◌, ◌++◌, drop, map, true, length, replicate}
use Rattle.xdr_types.specs.KindViews.{part_of_member}
use Rattle.xdr_types.specs.Fits.{fit, item_part}
use Rattle.xdr_types.specs.Tree.{depth_of}
use Rattle.xdr_types.specs.View.{values}
use Rattle.xdr_show.specs.Private.Lines.{lines}
use Rattle.xdr_show.proofs.shown.+push.Given as goal

abbrev pub invariant-push_items-loop-value : goal.invariant-push_items-loop-value
invariant-push_items-loop-value l =
    let rest = drop l.value-index l.value-items in
    let item = item_part l.id.place in
    record {
      fit : fit l.schema.kinds (replicate (length rest) item) (values rest) ≡ true;
      deep : l.depth + depth_of (values rest) ≤ 4097;
      reported : l.out.items ++ lines l.schema.kinds l.depth (replicate (length rest) item) (values rest)
          ≡ l.initial.out.items ++ lines l.schema.kinds l.depth (replicate (length l.value-items) item)
          (values l.value-items);
    }

abbrev pub invariant-push_fields-loop-i : goal.invariant-push_fields-loop-i
invariant-push_fields-loop-i l =
    let ps = map part_of_member (drop l.i l.fields.items) in
    let rest = values (drop l.i l.parts.items) in
    record {
      fit : fit l.schema.kinds ps rest ≡ true;
      deep : l.depth + depth_of rest ≤ 4097;
      reported : l.out.items ++ lines l.schema.kinds l.depth ps rest
          ≡ l.initial.out.items ++ lines l.schema.kinds l.depth (map part_of_member l.fields.items)
          (values l.parts.items);
    }
