use Rattle.std.proofs.Common.{◌≡◌, drop, map, []}
use Rattle.xdr_constants.specs.Views.{knowns}
use Rattle.xdr_lang.specs.Views.{types_of}
use Rattle.xdr_grammar.specs.View as view
use Rattle.xdr_lang.specs.Kinds.{each_onto, one_arm}
use Rattle.xdr_types.specs.KindViews as xdr
use Rattle.xdr_lang.proofs.kinds.all_arms.Given as goal

abbrev pub invariant-loop-arm : goal.invariant-loop-arm
invariant-loop-arm l = each_onto (one_arm (knowns l.constants.list.items) (types_of l.types.list.items))
    (map view.arm_of (drop l.arm-index l.items)) (map xdr.branch_of l.found.items) ≡ each_onto
    (one_arm (knowns l.constants.list.items) (types_of l.types.list.items)) (map view.arm_of l.items) []
