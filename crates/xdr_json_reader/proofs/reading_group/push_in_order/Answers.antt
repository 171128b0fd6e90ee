use Rattle.std.proofs.Common.{◌<◌, ◌-◌, length, map, arith, sym, ap, ◌∙◌}
use Rattle.std.proofs.lemmas.List.{get_or-map, length-map}
use Rattle.xdr_types.specs.KindViews.{part_of_member}
use Rattle.xdr_json_reader.specs.Tape.{json_in}
use Rattle.xdr_json_reader.specs.Private.Entries.{dues}
use Rattle.xdr_json_reader.specs.Private.Fields.{nodes}
use Rattle.xdr_json_reader.specs.declared.tape.Key.{Key}
use Rattle.xdr_json_reader.specs.declared.tape.Node.{Node}
use Rattle.xdr_json_reader.proofs.Fields.{each_step}
use Rattle.xdr_json_reader.proofs.reading_group.push_in_order.Goals as goal

pub loop-left-preserved : goal.loop-left-preserved
loop-left-preserved c =
    let fs = c.args.fields.now.items in
    let ms = c.args.members.now.items in
    let left = c.loop-left.left in
    let f = c.index.result.now in
    let m = c.index-in-loop-left.result.now in
    let few = c.loop-left.invariant.1 in
    let same = c.requires in
    let within : c.loop-left.left - 1 < length c.args.members.now.items = omega (arith, few, c.loop-left-test.true) in
    let inside : c.loop-left.left - 1 < length c.args.fields.now.items =
    omega (arith, few, same, c.loop-left-test.true) in (
      each_step (map part_of_member fs) (nodes ms) left (part_of_member f) (json_in m.1) _ (dues c.loop-left.due.items)
          (dues c.push_node.new.due.items) c.loop-left-test.true
          (omega (arith, few, same, length-map fs part_of_member))
          (omega (arith, few, length-map ms (λ (k : Key × Node). json_in k.1)))
          (get_or-map part_of_member fs (left - 1) f (part_of_member f) inside
          ∙ ap part_of_member (sym c.index.ensures))
          (get_or-map (λ (k : Key × Node). json_in k.1) ms (left - 1) m (json_in m.1) within
          ∙ ap (λ (k : Key × Node). json_in k.1) (sym c.index-in-loop-left.ensures))
          c.loop-left.invariant.0 c.in_ok-push_node.ensures,
      omega (arith, few),
    )
