use Rattle.std.proofs.Common.{◌≡◌, drop, map, []}
use Rattle.xdr_constants.specs.Views.{knowns}
use Rattle.xdr_grammar.specs.View as view
use Rattle.xdr_lang.specs.Kinds.{each_onto, one_member}
use Rattle.xdr_types.specs.KindViews as xdr
use Rattle.xdr_lang.proofs.kinds.all_members.Given as goal

abbrev pub invariant-loop-member : goal.invariant-loop-member
invariant-loop-member l = each_onto (one_member (knowns l.constants.list.items))
    (map view.member_of (drop l.member-index l.items)) (map xdr.constant_of l.found.items) ≡ each_onto
    (one_member (knowns l.constants.list.items)) (map view.member_of l.items) []
