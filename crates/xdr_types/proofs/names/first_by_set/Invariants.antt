use Rattle.std.proofs.Common.{map}
use Rattle.xdr_types.specs.KindViews.{kind_view, name_of}
use Rattle.xdr_types.specs.Faults.{name_flaw_at, AreFlawless}
use Rattle.xdr_types.proofs.Earlier.{HasNames}
use Rattle.xdr_types.proofs.names.first_by_set.Given as goal

abbrev pub invariant-loop-place : goal.invariant-loop-place
invariant-loop-place l = AreFlawless (name_flaw_at (map kind_view l.kinds.items) (map name_of l.names.items)) l.place
    × HasNames l.names.items l.place l.earlier
