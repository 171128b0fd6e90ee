use Rattle.std.proofs.Common.{◌<◌, ◌-◌, ℕ, List, length, map, arith, sym, ap, ◌∙◌, Some, if◌then◌else◌}
use Rattle.std.proofs.lemmas.List.{get_or-map, length-map}
use Rattle.std.proofs.lemmas.Map.Text.{btree_map_updates_str}
use Rattle.std.specs.Str.{bytes_eq}
use Rattle.xdr_types.specs.KindViews.{part_of_member}
use Rattle.xdr_json_reader.proofs.FirstTables.{fields_step}
use Rattle.xdr_json_reader.proofs.Named.{At}
use Rattle.xdr_json_reader.proofs.first_fields.places_of.Goals as goal

pub loop-left-preserved : goal.loop-left-preserved
loop-left-preserved c =
    let fs = c.args.fields.now.items in
    let left = c.loop-left.left in
    let f = c.index-field.result.now in
    let few = c.loop-left.invariant.1 in
    let within : c.loop-left.left - 1 < length c.args.fields.now.items = omega (arith, few, c.loop-left-test.true) in (
      fields_step c.loop-left.places c.insert.new.self (map part_of_member fs) left (part_of_member f)
          c.loop-left-test.true (omega (arith, few, length-map fs part_of_member))
          (get_or-map part_of_member fs (left - 1) f (part_of_member f) within
          ∙ ap part_of_member (sym c.index-field.ensures))
          (λ (name : List ℕ).
          btree_map_updates_str c.as_str.result.now c.loop-left.places c.insert.new.self _
          c.in_ok-insert.ensures.updates name
          ∙ ap (λ (bs : List ℕ). if bytes_eq bs name then Some f.kind.place else At c.loop-left.places name)
          c.as_str.ensures.value)
          c.loop-left.invariant.0,
      omega (arith, few),
    )
