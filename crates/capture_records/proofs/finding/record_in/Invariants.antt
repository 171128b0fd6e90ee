use Rattle.std.proofs.Common.{ℕ, ◌<◌, drop}
use Rattle.capture_records.specs.Finding.{IsRecordFront}
use Rattle.capture_records.proofs.finding.record_in.Given as goal

abbrev pub invariant-loop-at : goal.invariant-loop-at
invariant-loop-at l = (k : ℕ) → k < l.at → IsRecordFront (drop k l.bytes) → ⊥
