use Rattle.std.proofs.Common.{◌≡◌, ℕ, ◌-◌, ◌≤◌, length, take}
use Rattle.capture_streams.specs.Held.{StandFrom}
use Rattle.capture_streams.specs.Private.Pieces.{Fills}
use Rattle.capture_streams.proofs.pieces.Pieces.fill.Given as goal

-- the bytes so far are held, and the pieces begin where they may
abbrev pub invariant-loop-done : goal.invariant-loop-done
invariant-loop-done l = record {
  few : l.done ≤ length l.bytes;
  fills : Fills l.initial.self.by_last l.self.by_last l.at (take l.done l.bytes);
  limit : l.self.limit ≡ l.initial.self.limit;
  from : (due : ℕ) → due ≤ l.at → StandFrom due l.initial.self.by_last → StandFrom due l.self.by_last;
}

abbrev pub decreases-loop-done : goal.decreases-loop-done
decreases-loop-done l = length l.bytes - l.done
