use Rattle.std.proofs.Common.{◌≡◌, drop, map, []}
use Rattle.xdr_constants.specs.Views.{knowns}
use Rattle.xdr_grammar.specs.View as view
use Rattle.xdr_lang.specs.Kinds.{each_onto, one_case}
use Rattle.xdr_lang.proofs.kinds.all_cases.Given as goal

abbrev pub invariant-loop-value : goal.invariant-loop-value
invariant-loop-value l = each_onto (one_case (knowns l.constants.list.items))
    (map view.late_of (drop l.value-index l.items)) (l.found.items) ≡ each_onto
    (one_case (knowns l.constants.list.items)) (map view.late_of l.items) []
