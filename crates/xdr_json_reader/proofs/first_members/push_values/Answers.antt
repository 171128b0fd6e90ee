use Rattle.std.proofs.Common.{◌≡◌, ◌<◌, ◌-◌, ◌++◌, length, take, option_map, sym, ap, ◌∙◌, arith}
use Rattle.std.proofs.lemmas.List.{get_or-take, length-take-le}
use Rattle.xdr_types.specs.declared.kind.KindId.{KindId}
use Rattle.xdr_json_reader.specs.Tape.{json_in}
use Rattle.xdr_json_reader.specs.Reasons.{for_kind}
use Rattle.xdr_json_reader.specs.Private.Entries.{dues}
use Rattle.xdr_json_reader.proofs.FirstFronts.{values_step}
use Rattle.xdr_json_reader.proofs.first_members.push_values.Goals as goal

pub loop-left-preserved-in-Continue-1 : goal.loop-left-preserved-in-Continue-1
loop-left-preserved-in-Continue-1 c =
    let ms = c.args.members.now.items in
    let left = c.loop-left.left in
    let m = c.index-member.result.now in
    let few = c.loop-left.invariant.1 in
    let within : c.loop-left.left - 1 < c.args.count = omega (arith, few, c.loop-left-test.true) in
    let long : length (take c.args.count c.args.members.now.items) ≡ c.args.count =
    length-take-le c.args.count c.args.members.now.items c.requires in (
      λ ps isw.
          let here = ap (option_map (λ (k : KindId). k.place)) (sym c.in-Some.is) ∙ c.kind_under.ensures ps isw in
          values_step ps (take c.args.count ms) left m (dues c.loop-left.due.items) (dues c.push_node.new.due.items) _
          c.loop-left-test.true (omega (arith, few, long))
          (get_or-take c.args.count ms (left - 1) m within ∙ sym c.index-member.ensures)
          (c.loop-left.invariant.0 ps isw)
          (c.in_ok-push_node-in-Some.ensures
          ∙ ap (λ o. for_kind o (json_in m.1) ++ dues c.loop-left.due.items) here),
      omega (arith, few),
    )

pub loop-left-preserved : goal.loop-left-preserved
loop-left-preserved c =
    let ms = c.args.members.now.items in
    let left = c.loop-left.left in
    let m = c.index-member.result.now in
    let few = c.loop-left.invariant.1 in
    let within : c.loop-left.left - 1 < c.args.count = omega (arith, few, c.loop-left-test.true) in
    let long : length (take c.args.count c.args.members.now.items) ≡ c.args.count =
    length-take-le c.args.count c.args.members.now.items c.requires in (
      λ ps isw.
          let here = ap (option_map (λ (k : KindId). k.place)) (sym c.in-None.is) ∙ c.kind_under.ensures ps isw in
          values_step ps (take c.args.count ms) left m (dues c.loop-left.due.items) (dues c.loop-left.due.items) _
          c.loop-left-test.true (omega (arith, few, long))
          (get_or-take c.args.count ms (left - 1) m within ∙ sym c.index-member.ensures)
          (c.loop-left.invariant.0 ps isw)
          (ap (λ o. for_kind o (json_in m.1) ++ dues c.loop-left.due.items) here),
      omega (arith, few),
    )
