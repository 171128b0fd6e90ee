-- A count that is reported.
use Rattle.std.proofs.Common.{◌≡◌, ℕ, ◌-◌, ◌^◌, Bool, true, false, Some, None, nat_lt, if◌then◌else◌}
use Rattle.xdr_io.specs.Reported.{reported_count}

some_inner : (b : Bool) (m n : ℕ) → (if b then Some m else None) ≡ Some n → m ≡ n
some_inner true m n e = cc
some_inner false m n e = cc

-- A source that tells no reads has made none.
pub no_reads : (n : ℕ) → reported_count n ≡ Some 0 → n ≡ 0
no_reads n e = some_inner (nat_lt n (2 ^ 64 - 1)) n 0 e
