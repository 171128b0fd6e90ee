use Rattle.std.proofs.Common.{◌≡◌, drop}
use Rattle.xdr_bounds.specs.Private.Amounts.{places_of}
use Rattle.xdr_bounds.specs.Private.Rounds.{all_done}
use Rattle.xdr_bounds.proofs.most.all_done.Given as goal

abbrev pub invariant-loop-id : goal.invariant-loop-id
invariant-loop-id l = all_done l.done.items (places_of (drop l.id-index l.id-items)) ≡ all_done l.done.items
    (places_of l.id-items)
