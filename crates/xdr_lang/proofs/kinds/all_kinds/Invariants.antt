use Rattle.std.proofs.Common.{◌≡◌, drop, map}
use Rattle.xdr_constants.specs.Views.{knowns}
use Rattle.xdr_lang.specs.Views.{types_of}
use Rattle.xdr_grammar.specs.View as view
use Rattle.xdr_lang.specs.Kinds.{each_onto, one_kind}
use Rattle.xdr_types.specs.KindViews as xdr
use Rattle.xdr_types.specs.Named.{basic}
use Rattle.xdr_lang.proofs.kinds.all_kinds.Given as goal

abbrev pub invariant-loop-draft : goal.invariant-loop-draft
invariant-loop-draft l = each_onto (one_kind (knowns l.constants.list.items) (types_of l.types.list.items))
    (map view.draft_of (drop l.draft-index l.items)) (map xdr.kind_view l.found.items) ≡ each_onto
    (one_kind (knowns l.constants.list.items) (types_of l.types.list.items)) (map view.draft_of l.items) basic.kinds
