use Rattle.std.proofs.Common.{◌≡◌, ℤ, true, ◌≤ℤ◌, ◌<ℤ◌, int_cmp}
use Rattle.std.specs.BTreeSet.{contains}
use Rattle.xdr_types.proofs.reach.has_free_between.Given as goal

abbrev pub invariant-loop-number : goal.invariant-loop-number
invariant-loop-number l = record {
  within : l.low ≤ℤ l.number;
  all : (z : ℤ) → l.low ≤ℤ z → z <ℤ l.number → contains int_cmp l.cases z ≡ true;
}
