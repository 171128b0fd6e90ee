use Rattle.std.proofs.Common.{◌≡◌, drop, map}
use Rattle.xdr_lang.specs.Views.{types_of}
use Rattle.xdr_grammar.specs.View as view
use Rattle.xdr_lang.specs.Kinds.{each_onto, one_field}
use Rattle.xdr_types.specs.KindViews as xdr
use Rattle.xdr_types.specs.Named.{basic}
use Rattle.xdr_lang.proofs.lists.all_types.Given as goal

abbrev pub invariant-loop-field : goal.invariant-loop-field
invariant-loop-field l = each_onto (one_field (types_of l.types.list.items))
    (map view.field_of (drop l.field-index l.types.list.items)) (map xdr.name_of l.found.items) ≡ each_onto
    (one_field (types_of l.types.list.items)) (map view.field_of l.types.list.items) basic.names
