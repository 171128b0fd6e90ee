use Rattle.std.proofs.Common.{◌≡◌, [], ◌∷◌, List, length, arith, inl, inr}
use Rattle.xdr_json_reader.specs.Tape.{json_in}
use Rattle.xdr_json_reader.specs.Private.Entries.{dues}
use Rattle.xdr_json_reader.specs.Nodes.{Due}
use Rattle.xdr_json_reader.proofs.Groups.{not_some}
use Rattle.xdr_json_reader.proofs.Trees.{tree_goes_on, tree_shrinks, tree_refused, tree_ends, no_items}
use Rattle.xdr_json_reader.proofs.Trees.{tree_starts, first_due}
use Rattle.xdr_json_reader.proofs.Tables.{no_tables}
use Rattle.xdr_json_reader.proofs.reading_tree.bytes_with.Goals as goal

pub loop-next-init : goal.loop-next-init
loop-next-init c =
    let kinds = c.args.schema.now.kinds in
    let due = c.push_node.new.due.items in
    let is : dues c.push_node.new.due.items ≡ (c.args.kind.place, json_in c.args.tree.now) ∷ [] =
    first_due c.push_node.result c.is_err.result (c.args.kind.place, json_in c.args.tree.now) c.new-due.result.items
    c.push_node.new.due.items c.is_err.ensures.value c.if-is_err.false c.new-due.ensures.items c.push_node.ensures in (
      tree_starts kinds ((c.args.kind.place, json_in c.args.tree.now) ∷ []) (dues due) c.new-out.result.items
          c.new-out.ensures.items is,
      no_tables kinds c.new-tables.result c.new-tables.ensures.empty,
    )

pub loop-next-smaller : goal.loop-next-smaller
loop-next-smaller c =
    tree_shrinks c.args.schema.now c.len-known.ensures.well_formed c.loop-next.out.items c.read_node.new.out.items
    c.loop-next.due.items c.pop.new.self.items c.in-Some.next (dues c.read_node.new.due.items)
    c.in-Some.ensures.items c.in-Ok.ensures

pub loop-next-preserved : goal.loop-next-preserved
loop-next-preserved c =
    let root : List Due = (c.args.kind.place, json_in c.args.tree.now) ∷ [] in (
      tree_goes_on c.args.schema.now c.len-known.ensures.well_formed root c.loop-next.out.items
          c.read_node.new.out.items c.loop-next.due.items c.pop.new.self.items c.in-Some.next
          (dues c.read_node.new.due.items) c.in-Some.ensures.items c.loop-next.invariant.0 c.in-Ok.ensures,
      c.note_names.ensures,
    )

pub returns-in-Err : goal.returns-in-Err
returns-in-Err c =
    let root : List Due = (c.args.kind.place, json_in c.args.tree.now) ∷ [] in
    elim c.in-Err.ensures [
      | inl m ↦ inl m
      | inr n ↦
          inr (tree_refused c.args.schema.now.kinds root c.loop-next.out.items c.loop-next.due.items
          c.pop.new.self.items c.in-Some.next c.in-Some.ensures.items c.loop-next.invariant.0 n.none)
    ]

pub returns : goal.returns
returns c =
    let root : List Due = (c.args.kind.place, json_in c.args.tree.now) ∷ [] in
    let none = not_some c.pop.result c.in_default.not-Some in
    let empty = rw none at c.pop.ensures.cases in
    let zero : length c.loop-next.due.items ≡ 0 = omega (arith, empty.0, c.loop-next.due.ok.0) in
    tree_ends c.args.schema.now.kinds root c.loop-next.out.items c.loop-next.due.items
    (no_items c.loop-next.due.items zero) c.loop-next.invariant.0
