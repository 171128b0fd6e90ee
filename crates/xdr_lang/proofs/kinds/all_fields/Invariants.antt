use Rattle.std.proofs.Common.{◌≡◌, drop, map, []}
use Rattle.xdr_lang.specs.Views.{types_of}
use Rattle.xdr_grammar.specs.View as view
use Rattle.xdr_lang.specs.Kinds.{each_onto, one_field}
use Rattle.xdr_types.specs.KindViews as xdr
use Rattle.xdr_lang.proofs.kinds.all_fields.Given as goal

abbrev pub invariant-loop-field : goal.invariant-loop-field
invariant-loop-field l = each_onto (one_field (types_of l.types.list.items))
    (map view.field_of (drop l.field-index l.items)) (map xdr.part_of_member l.found.items) ≡ each_onto
    (one_field (types_of l.types.list.items)) (map view.field_of l.items) []
