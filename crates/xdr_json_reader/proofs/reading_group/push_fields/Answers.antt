use Rattle.std.proofs.Common.{◌++◌, List, map, sym, ap, ◌∙◌}
use Rattle.json.specs.Json.{Json}
use Rattle.xdr_types.specs.KindViews.{part_of_member}
use Rattle.xdr_json_reader.specs.Private.Entries.{dues}
use Rattle.xdr_json_reader.specs.Nodes.{each}
use Rattle.xdr_json_reader.proofs.Fields.{in_order}
use Rattle.xdr_json_reader.proofs.reading_group.push_fields.Goals as goal

pub returns-then-are_in_order : goal.returns-then-are_in_order
returns-then-are_in_order c =
    let ps = map part_of_member c.args.fields.now.items in
    let both = in_order (map part_of_member c.args.fields.now.items) c.args.members.now.items c.requires.apart
    c.if-are_in_order.ensures in (
      both.1,
      c.in_ok-push_in_order.ensures
          ∙ ap (λ (js : List Json). each ps js ++ dues c.args.due.now.items) (sym both.0),
    )
