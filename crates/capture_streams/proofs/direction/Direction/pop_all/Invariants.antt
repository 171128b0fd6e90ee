use Rattle.std.proofs.Common.{◌-◌, ◌^◌}
use Rattle.capture_streams.specs.Represents.{IsOfSame}
use Rattle.capture_streams.specs.Private.Steps.{PopsAll}
use Rattle.capture_streams.proofs.direction.Direction.pop_all.Given as goal

-- what was handed on so far
abbrev pub invariant-loop-self : goal.invariant-loop-self
invariant-loop-self l = record {
  same : IsOfSame l.initial.self l.self;
  pops : PopsAll l.initial.self l.self l.initial.out.items l.out.items;
}

abbrev pub decreases-loop-self : goal.decreases-loop-self
decreases-loop-self l = 2 ^ 64 - l.self.due
