use Rattle.std.proofs.Common.{◌≡◌, ◌-◌, ◌^◌, ◌≤◌, take}
use Rattle.capture_streams.specs.Represents.{IsOfSame}
use Rattle.capture_streams.specs.Private.Steps.{Steps}
use Rattle.capture_streams.proofs.direction.Direction.deliver.Given as goal

-- the bytes up to the due place were taken
abbrev pub invariant-loop-self : goal.invariant-loop-self
invariant-loop-self l = record {
  same : IsOfSame l.initial.self l.self;
  begun : l.from ≡ l.initial.self.due;
  further : l.from ≤ l.self.due;
  steps : Steps l.initial.self l.self l.from (take (l.self.due - l.from) l.bytes) l.initial.out.items l.out.items;
}

abbrev pub decreases-loop-self : goal.decreases-loop-self
decreases-loop-self l = 2 ^ 64 - l.self.due
