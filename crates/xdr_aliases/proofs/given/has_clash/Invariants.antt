use Rattle.std.proofs.Common.{◌≡◌, length}
use Rattle.std.specs.List.{list_any}
use Rattle.xdr_constants.specs.Views.{knowns}
use Rattle.xdr_aliases.specs.Aliases.{clashes}
use Rattle.xdr_aliases.proofs.given.has_clash.Given as goal

abbrev pub invariant-loop-rest : goal.invariant-loop-rest
invariant-loop-rest l =
    list_any (clashes (knowns l.table.list.items)) (knowns l.table.list.items)
    ≡ list_any (clashes (knowns l.table.list.items)) (knowns l.rest)

abbrev pub decreases-loop-rest : goal.decreases-loop-rest
decreases-loop-rest l = length l.rest
