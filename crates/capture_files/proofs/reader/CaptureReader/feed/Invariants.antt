use Rattle.std.proofs.Common.{◌≤◌, ◌-◌, length, take}
use Rattle.capture_files.specs.Represents.{Takes}
use Rattle.capture_files.proofs.Faults.{Follows}
use Rattle.capture_files.proofs.reader.CaptureReader.feed.Given as goal

abbrev pub invariant-loop-used : goal.invariant-loop-used
invariant-loop-used l =
    record {
      within : l.used ≤ length l.piece;
      takes : Takes l.fn.self l.self (take l.used l.piece);
      follows : Follows l.fn.self l.self;
    }

abbrev pub decreases-loop-used : goal.decreases-loop-used
decreases-loop-used l = length l.piece - l.used
