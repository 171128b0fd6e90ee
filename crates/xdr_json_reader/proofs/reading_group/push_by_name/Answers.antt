use Rattle.std.proofs.Common.{◌≡◌, ◌<◌, ◌-◌, ◌+◌, ℕ, length, map, drop, arith, sym, ap, ◌∙◌}
use Rattle.std.proofs.lemmas.List.{get_or-map, length-map}
use Rattle.xdr_types.specs.Kinds.{Part}
use Rattle.xdr_types.specs.KindViews.{part_of_member}
use Rattle.xdr_json.specs.Spelled.{at_key, has_key, has_each}
use Rattle.xdr_json_reader.specs.Tape.{json_in, members_of}
use Rattle.xdr_json_reader.specs.Private.Look.{pairs}
use Rattle.xdr_json_reader.specs.Private.Entries.{dues}
use Rattle.xdr_json_reader.specs.Private.Fields.{at_each}
use Rattle.xdr_json_reader.proofs.Fields.{each_step, has_more, not_has}
use Rattle.xdr_json_reader.proofs.Named.{found, not_found}
use Rattle.xdr_json_reader.proofs.reading_group.push_by_name.Goals as goal

pub loop-left-preserved : goal.loop-left-preserved
loop-left-preserved c =
    let fs = c.args.fields.now.items in
    let ms = members_of (pairs c.args.members.now.items) in
    let ps = map part_of_member fs in
    let left = c.loop-left.left in
    let f = c.index-field.result.now in
    let p = part_of_member f in
    let j = json_in c.in-Some.node.now.now in
    let few = c.loop-left.invariant.2 in
    let within : c.loop-left.left - 1 < length c.args.fields.now.items = omega (arith, few, c.loop-left-test.true) in
    let inside : c.loop-left.left - 1 < length (map part_of_member c.args.fields.now.items) =
    omega (arith, within, length-map c.args.fields.now.items part_of_member) in
    let next : c.loop-left.left ≡ (c.loop-left.left - 1) + 1 = omega (arith, c.loop-left-test.true) in
    let at = get_or-map part_of_member fs (left - 1) f p within ∙ ap part_of_member (sym c.index-field.ensures) in
    let here = found c.get.result c.in-Some.node _ ms c.as_str.result.now c.in-Some.is c.get.ensures.value
    (c.in_ok-named.ensures c.as_str.result.now) in
    let named = ap (has_key ms) (sym c.as_str.ensures.value) ∙ here.0 in
    let value = ap (at_key ms) (sym c.as_str.ensures.value) ∙ here.1 in
    let each = get_or-map (λ (q : Part). at_key ms q.name) ps (left - 1) p j inside
    ∙ ap (λ (q : Part). at_key ms q.name) at ∙ value in (
      each_step ps (at_each ps ms) left p j _ (dues c.loop-left.due.items) (dues c.push_node.new.due.items)
          c.loop-left-test.true (omega (arith, few, length-map fs part_of_member))
          (omega (arith, few, length-map fs part_of_member, length-map ps (λ (q : Part). at_key ms q.name))) at each
          c.loop-left.invariant.0 c.in_ok-push_node-in-Some.ensures,
      has_more ps ms (left - 1) p inside at named
          (ap (λ (n : ℕ). has_each (drop n ps) ms) (sym next) ∙ c.loop-left.invariant.1),
      omega (arith, few),
    )

pub returns-in-None : goal.returns-in-None
returns-in-None c =
    let fs = c.args.fields.now.items in
    let ms = members_of (pairs c.args.members.now.items) in
    let ps = map part_of_member fs in
    let left = c.loop-left.left in
    let f = c.index-field.result.now in
    let p = part_of_member f in
    let few = c.loop-left.invariant.2 in
    let within : c.loop-left.left - 1 < length c.args.fields.now.items = omega (arith, few, c.loop-left-test.true) in
    let inside : c.loop-left.left - 1 < length (map part_of_member c.args.fields.now.items) =
    omega (arith, within, length-map c.args.fields.now.items part_of_member) in
    let at = get_or-map part_of_member fs (left - 1) f p within ∙ ap part_of_member (sym c.index-field.ensures) in
    let none = not_found c.get.result _ ms c.as_str.result.now c.in-None.is c.get.ensures.value
    (c.in_ok-named.ensures c.as_str.result.now) in
    not_has ps ms (left - 1) p inside at (ap (has_key ms) (sym c.as_str.ensures.value) ∙ none)
