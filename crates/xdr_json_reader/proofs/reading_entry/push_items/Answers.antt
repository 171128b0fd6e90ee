use Rattle.std.proofs.Common.{◌<◌, ◌-◌, length, map, replicate, arith, sym, ap, ◌∙◌}
use Rattle.std.proofs.lemmas.List.{get_or-map, get_or-replicate, length-map, length-replicate}
use Rattle.xdr_types.specs.Fits.{item_part}
use Rattle.xdr_json_reader.specs.Tape.{json_in}
use Rattle.xdr_json_reader.specs.Private.Entries.{dues}
use Rattle.xdr_json_reader.proofs.Fields.{each_step}
use Rattle.xdr_json_reader.proofs.reading_entry.push_items.Goals as goal

pub loop-left-preserved : goal.loop-left-preserved
loop-left-preserved c =
    let items = c.args.items.now.items in
    let left = c.loop-left.left in
    let p = item_part c.args.kind.place in
    let n = c.index.result.now in
    let few = c.loop-left.invariant.1 in
    let within : c.loop-left.left - 1 < length c.args.items.now.items = omega (arith, few, c.loop-left-test.true) in (
      each_step (replicate (length items) p) (map json_in items) left p (json_in n) _ (dues c.loop-left.due.items)
          (dues c.push_node.new.due.items) c.loop-left-test.true
          (omega (arith, few, length-replicate (length items) p)) (omega (arith, few, length-map items json_in))
          (get_or-replicate (length items) (left - 1) p p within)
          (get_or-map json_in items (left - 1) n (json_in n) within ∙ ap json_in (sym c.index.ensures))
          c.loop-left.invariant.0 c.in_ok-push_node.ensures,
      omega (arith, few),
    )
