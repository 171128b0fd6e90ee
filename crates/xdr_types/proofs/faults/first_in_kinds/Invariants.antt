use Rattle.std.proofs.Common.{map}
use Rattle.xdr_types.specs.KindViews.{kind_view}
use Rattle.xdr_types.specs.Faults.{kind_flaw_at, AreFlawless}
use Rattle.xdr_types.proofs.faults.first_in_kinds.Given as goal

abbrev pub invariant-loop-place : goal.invariant-loop-place
invariant-loop-place l = AreFlawless (kind_flaw_at (map kind_view l.kinds.items)) l.place
