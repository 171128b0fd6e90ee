use Rattle.std.proofs.Common.{◌≡◌, length, map}
use Rattle.xdr_types.specs.KindViews.{kind_view}
use Rattle.xdr_types.specs.Private.Notes.{AreNoted}
use Rattle.xdr_types.proofs.notes.numbers_of.Given as goal

abbrev pub invariant-loop-kind : goal.invariant-loop-kind
invariant-loop-kind l = record {
  lengths : length l.notes.items ≡ l.kind-index;
  each : AreNoted (map kind_view l.kinds.items) l.notes.items;
}
