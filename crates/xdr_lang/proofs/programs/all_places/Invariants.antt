use Rattle.std.proofs.Common.{◌≡◌, drop, map, []}
use Rattle.xdr_lang.specs.Views.{types_of, places}
use Rattle.xdr_grammar.specs.View as view
use Rattle.xdr_lang.specs.Kinds.{each_onto}
use Rattle.xdr_lang.specs.LookUp.{place_of}
use Rattle.xdr_lang.proofs.programs.all_places.Given as goal

abbrev pub invariant-loop-part : goal.invariant-loop-part
invariant-loop-part l = each_onto (place_of (types_of l.types.list.items))
    (map view.part_of (drop l.part-index l.items)) (places l.found.items) ≡ each_onto
    (place_of (types_of l.types.list.items)) (map view.part_of l.items) []
