use Rattle.std.proofs.Common.{◌≡◌, length, map}
use Rattle.xdr_types.specs.KindViews.{kind_view}
use Rattle.xdr_types.specs.Private.Sets.{AreNumbers}
use Rattle.xdr_types.proofs.sets.numbers_of_tags.Given as goal

abbrev pub invariant-loop-kind : goal.invariant-loop-kind
invariant-loop-kind l = record {
  all : length l.numbers.items ≡ length l.kinds.items;
  numbers : AreNumbers (map kind_view l.kinds.items) l.numbers.items;
}
