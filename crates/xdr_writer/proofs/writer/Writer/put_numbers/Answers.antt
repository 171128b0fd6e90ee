use Rattle.std.proofs.Common.{ℤ, List, drop, subst}
use Rattle.std.specs.Prelude.{Ok, Err}
use Rattle.xdr_writer.specs.Private.Runs.{TakesSome}
use Rattle.xdr_writer.proofs.InTurn.{more_taken, one_refused}
use Rattle.xdr_writer.proofs.Words.{rest_of, same_all}
use Rattle.xdr_writer.proofs.writer.Writer.put_numbers.Goals as goal

pub loop-at-preserved : goal.loop-at-preserved
loop-at-preserved c =
    let zs : List ℤ = c.args.numbers.now in
    let some : TakesSome c.loop-at.self c.put_some.new.self (drop c.loop-at.at zs) c.loop-at.out.items
    c.put_some.new.out.items (Ok (c.in-Ok.count, c.in-Ok.step)) =
    subst (λ (l : List ℤ). TakesSome c.loop-at.self c.put_some.new.self l c.loop-at.out.items
    c.put_some.new.out.items (Ok (c.in-Ok.count, c.in-Ok.step))) (rest_of c.loop-at.at zs) c.in-Ok.ensures in
    more_taken c.args.self.now c.loop-at.self c.put_some.new.self zs c.loop-at.at c.args.out.now.items
    c.loop-at.out.items c.put_some.new.out.items c.loop-at.last c.loop-at.invariant c.in-Ok.count c.in-Ok.step some
    (same_all c.args.self.now c.loop-at.self c.put_some.new.self c.loop-at.invariant.same some.same)

pub returns-in-Err-clause-rejects : goal.returns-in-Err-clause-rejects
returns-in-Err-clause-rejects c =
    let zs : List ℤ = c.args.numbers.now in
    let some : TakesSome c.loop-at.self c.put_some.new.self (drop c.loop-at.at zs) c.loop-at.out.items
    c.put_some.new.out.items (Err c.in-Err.refusal) =
    subst (λ (l : List ℤ). TakesSome c.loop-at.self c.put_some.new.self l c.loop-at.out.items
    c.put_some.new.out.items (Err c.in-Err.refusal)) (rest_of c.loop-at.at zs) c.in-Err.ensures in (
      some.refused,
      (λ is r. one_refused c.args.self.now c.loop-at.self c.put_some.new.self zs c.loop-at.at c.args.out.now.items
          c.loop-at.out.items c.put_some.new.out.items c.loop-at.last c.loop-at.invariant c.in-Err.refusal some is r),
    )
