use Rattle.std.proofs.Common.{◌+◌, ℕ, List, length, take, ap, subst, ◌∙◌, arith}
use Rattle.std.proofs.lemmas.List.{length-drop, take_rest}
use Rattle.capture_streams.specs.declared.pieces.Pieces.{Pieces}
use Rattle.capture_streams.specs.Private.Pieces.{FillsNext}
use Rattle.capture_streams.proofs.Filling.{filled_more, filled_same}
use Rattle.capture_streams.proofs.Holding.{same_from}
use Rattle.capture_streams.proofs.Wanting.{full_next, memory_next}
use Rattle.capture_streams.proofs.pieces.Pieces.fill.Goals as goal

pub loop-done-preserved : goal.loop-done-preserved
loop-done-preserved c =
    let was = c.loop-done.invariant in
    let next = subst (λ (zs : List ℕ). FillsNext c.loop-done.self.by_last c.fill_next.new.self.by_last
    (c.args.at + c.loop-done.done) c.in-Ok.n zs) (take_rest c.args.bytes.now c.loop-done.done) c.in-Ok.ensures.ok in
    let rest = length-drop c.loop-done.done c.args.bytes.now in
    let few = next.few in
    let low = was.few in
    record {
      few = omega arith;
      fills = filled_more c.args.self.now.by_last c.loop-done.self.by_last c.fill_next.new.self.by_last c.args.at
          c.loop-done.done c.in-Ok.n c.args.bytes.now was.few was.fills next.fills;
      limit = c.fill_next.ensures.limit ∙ was.limit;
      from = λ due begin start last piece e. next.from last piece e due (omega arith) (was.from due begin start);
    }

pub returns-in-Err-Space-clause-from : goal.returns-in-Err-Space-clause-from
returns-in-Err-Space-clause-from c = λ due begin start.
    let wanted = rw c.in-Err-Space.field-0-is at c.in-Err-Space.ensures.refused in
    same_from c.loop-done.self.by_last c.fill_next.new.self.by_last due
    (ap (λ (x : Pieces). x.by_last.entries) wanted.2.0) (c.loop-done.invariant.from due begin start)

pub returns-in-Err-Space-clause-refused : goal.returns-in-Err-Space-clause-refused
returns-in-Err-Space-clause-refused c =
    let wanted = rw c.in-Err-Space.field-0-is at c.in-Err-Space.ensures.refused in
    record {
      few = c.loop-done-test.true;
      fills = filled_same c.args.self.now.by_last c.loop-done.self.by_last c.fill_next.new.self.by_last c.args.at
          (take c.loop-done.done c.args.bytes.now) (ap (λ (x : Pieces). x.by_last.entries) wanted.2.0)
          c.loop-done.invariant.fills;
      wanted = full_next c.loop-done.self c.fill_next.new.self c.args.at c.loop-done.done _ c.args.bytes.now
          (ap length (take_rest c.args.bytes.now c.loop-done.done) ∙ length-drop c.loop-done.done c.args.bytes.now)
          wanted;
    }

pub returns-in-Err-Memory-clause-refused : goal.returns-in-Err-Memory-clause-refused
returns-in-Err-Memory-clause-refused c =
    let wanted = rw c.in-Err-Memory.field-0-is at c.in-Err-Memory.ensures.refused in
    record {
      few = c.loop-done-test.true;
      fills = filled_same c.args.self.now.by_last c.loop-done.self.by_last c.fill_next.new.self.by_last c.args.at
          (take c.loop-done.done c.args.bytes.now) wanted.2.1 c.loop-done.invariant.fills;
      wanted = memory_next c.loop-done.self c.fill_next.new.self c.args.at c.loop-done.done _ c.args.bytes.now
          (ap length (take_rest c.args.bytes.now c.loop-done.done) ∙ length-drop c.loop-done.done c.args.bytes.now)
          wanted;
    }

pub returns-in-Err-Memory-clause-from : goal.returns-in-Err-Memory-clause-from
returns-in-Err-Memory-clause-from c = λ due begin start.
    let wanted = rw c.in-Err-Memory.field-0-is at c.in-Err-Memory.ensures.refused in
    same_from c.loop-done.self.by_last c.fill_next.new.self.by_last due wanted.2.1
    (c.loop-done.invariant.from due begin start)
