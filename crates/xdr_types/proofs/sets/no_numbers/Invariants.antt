use Rattle.std.proofs.Common.{◌≡◌, length}
use Rattle.std.specs.List.{All}
use Rattle.std.specs.BTreeSet.{btree_set_len}
use Rattle.xdr_types.proofs.sets.no_numbers.Given as goal

abbrev pub invariant-loop-i : goal.invariant-loop-i
invariant-loop-i l = record {
  lengths : length l.numbers.items ≡ l._i;
  none : All (λ s. btree_set_len s ≡ 0) l.numbers.items;
}
