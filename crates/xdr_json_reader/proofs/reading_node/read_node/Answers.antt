use Rattle.std.proofs.Common.{sym, ap, ◌∙◌}
use Rattle.xdr_types.specs.Kinds.{kind_at}
use Rattle.xdr_types.specs.KindViews.{kind_view}
use Rattle.xdr_json_reader.specs.Tape.{json_in}
use Rattle.xdr_json_reader.specs.Private.Entries.{dues}
use Rattle.xdr_json_reader.specs.Private.Look.{seen}
use Rattle.xdr_json_reader.proofs.Nodes.{leaf_at, node_at}
use Rattle.xdr_json_reader.proofs.reading_node.read_node.Goals as goal

pub returns-in-Int : goal.returns-in-Int
returns-in-Int c =
    let kinds = c.args.schema.now.kinds in
    leaf_at kinds _ (kind_at kinds c.args.turn.next.kind.place) (seen c.look.result)
    (json_in c.args.turn.next.node.now) c.args.out.now.items c.read_int.new.out.items
    (dues c.args.due.now.items) c.read_int.result c.placed.result
    (sym c.kind.ensures ∙ ap kind_view c.in-Int.is) c.look.ensures
    c.read_int.ensures c.placed.ensures

pub returns-in-Unsigned : goal.returns-in-Unsigned
returns-in-Unsigned c =
    let kinds = c.args.schema.now.kinds in
    leaf_at kinds _ (kind_at kinds c.args.turn.next.kind.place) (seen c.look-in-Unsigned.result)
    (json_in c.args.turn.next.node.now) c.args.out.now.items c.read_unsigned.new.out.items
    (dues c.args.due.now.items) c.read_unsigned.result c.placed-in-Unsigned.result
    (sym c.kind.ensures ∙ ap kind_view c.in-Unsigned.is) c.look-in-Unsigned.ensures
    c.read_unsigned.ensures c.placed-in-Unsigned.ensures

pub returns-in-Hyper : goal.returns-in-Hyper
returns-in-Hyper c =
    let kinds = c.args.schema.now.kinds in
    leaf_at kinds _ (kind_at kinds c.args.turn.next.kind.place) (seen c.look-in-Hyper.result)
    (json_in c.args.turn.next.node.now) c.args.out.now.items c.read_hyper.new.out.items
    (dues c.args.due.now.items) c.read_hyper.result c.placed-in-Hyper.result
    (sym c.kind.ensures ∙ ap kind_view c.in-Hyper.is) c.look-in-Hyper.ensures
    c.read_hyper.ensures c.placed-in-Hyper.ensures

pub returns-in-UnsignedHyper : goal.returns-in-UnsignedHyper
returns-in-UnsignedHyper c =
    let kinds = c.args.schema.now.kinds in
    leaf_at kinds _ (kind_at kinds c.args.turn.next.kind.place) (seen c.look-in-UnsignedHyper.result)
    (json_in c.args.turn.next.node.now) c.args.out.now.items c.read_unsigned_hyper.new.out.items
    (dues c.args.due.now.items) c.read_unsigned_hyper.result c.placed-in-UnsignedHyper.result
    (sym c.kind.ensures ∙ ap kind_view c.in-UnsignedHyper.is) c.look-in-UnsignedHyper.ensures
    c.read_unsigned_hyper.ensures c.placed-in-UnsignedHyper.ensures

pub returns-in-Bool : goal.returns-in-Bool
returns-in-Bool c =
    let kinds = c.args.schema.now.kinds in
    leaf_at kinds _ (kind_at kinds c.args.turn.next.kind.place) (seen c.look-in-Bool.result)
    (json_in c.args.turn.next.node.now) c.args.out.now.items c.read_bool.new.out.items
    (dues c.args.due.now.items) c.read_bool.result c.placed-in-Bool.result
    (sym c.kind.ensures ∙ ap kind_view c.in-Bool.is) c.look-in-Bool.ensures
    c.read_bool.ensures c.placed-in-Bool.ensures

pub returns-in-Numbered : goal.returns-in-Numbered
returns-in-Numbered c =
    let kinds = c.args.schema.now.kinds in
    leaf_at kinds _ (kind_at kinds c.args.turn.next.kind.place) (seen c.look-in-Numbered.result)
    (json_in c.args.turn.next.node.now) c.args.out.now.items c.read_numbered.new.out.items
    (dues c.args.due.now.items) c.read_numbered.result c.placed-in-Numbered.result
    (sym c.kind.ensures ∙ ap kind_view c.in-Numbered.is) c.look-in-Numbered.ensures
    c.read_numbered.ensures c.placed-in-Numbered.ensures

pub returns-in-Opaque : goal.returns-in-Opaque
returns-in-Opaque c =
    let kinds = c.args.schema.now.kinds in
    leaf_at kinds _ (kind_at kinds c.args.turn.next.kind.place) (seen c.look-in-Opaque.result)
    (json_in c.args.turn.next.node.now) c.args.out.now.items c.read_opaque.new.out.items
    (dues c.args.due.now.items) c.read_opaque.result c.placed-in-Opaque.result
    (sym c.kind.ensures ∙ ap kind_view c.in-Opaque.is) c.look-in-Opaque.ensures
    c.read_opaque.ensures c.placed-in-Opaque.ensures

pub returns-in-OpaqueUpTo : goal.returns-in-OpaqueUpTo
returns-in-OpaqueUpTo c =
    let kinds = c.args.schema.now.kinds in
    leaf_at kinds _ (kind_at kinds c.args.turn.next.kind.place) (seen c.look-in-OpaqueUpTo.result)
    (json_in c.args.turn.next.node.now) c.args.out.now.items c.read_opaque_up_to.new.out.items
    (dues c.args.due.now.items) c.read_opaque_up_to.result c.placed-in-OpaqueUpTo.result
    (sym c.kind.ensures ∙ ap kind_view c.in-OpaqueUpTo.is) c.look-in-OpaqueUpTo.ensures
    c.read_opaque_up_to.ensures c.placed-in-OpaqueUpTo.ensures

pub returns-in-Text : goal.returns-in-Text
returns-in-Text c =
    let kinds = c.args.schema.now.kinds in
    leaf_at kinds _ (kind_at kinds c.args.turn.next.kind.place) (seen c.look-in-Text.result)
    (json_in c.args.turn.next.node.now) c.args.out.now.items c.read_text.new.out.items
    (dues c.args.due.now.items) c.read_text.result c.placed-in-Text.result
    (sym c.kind.ensures ∙ ap kind_view c.in-Text.is) c.look-in-Text.ensures
    c.read_text.ensures c.placed-in-Text.ensures

pub returns-in-Fixed : goal.returns-in-Fixed
returns-in-Fixed c =
    let kinds = c.args.schema.now.kinds in
    node_at kinds _ (kind_at kinds c.args.turn.next.kind.place) (seen c.look-in-Fixed.result)
    (json_in c.args.turn.next.node.now) c.args.out.now.items c.args.out.now.items
    (dues c.args.due.now.items) (dues c.read_fixed.new.due.items) c.read_fixed.result c.placed-in-Fixed.result
    (sym c.kind.ensures ∙ ap kind_view c.in-Fixed.is) c.look-in-Fixed.ensures
    c.read_fixed.ensures c.placed-in-Fixed.ensures

pub returns-in-UpTo : goal.returns-in-UpTo
returns-in-UpTo c =
    let kinds = c.args.schema.now.kinds in
    node_at kinds _ (kind_at kinds c.args.turn.next.kind.place) (seen c.look-in-UpTo.result)
    (json_in c.args.turn.next.node.now) c.args.out.now.items c.read_up_to.new.out.items
    (dues c.args.due.now.items) (dues c.read_up_to.new.due.items) c.read_up_to.result c.placed-in-UpTo.result
    (sym c.kind.ensures ∙ ap kind_view c.in-UpTo.is) c.look-in-UpTo.ensures
    c.read_up_to.ensures c.placed-in-UpTo.ensures
