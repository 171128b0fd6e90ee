use Rattle.std.proofs.Common.{arith}
use Rattle.example_call.proofs.Told.{memory_said}
use Rattle.example_call.proofs.failures.says_that_memory_was_refused.Goals as goal

pub returns-clause-said : goal.returns-clause-said
returns-clause-said g c = λ four.
    let e = c.call_over.ensures in
    let t = e.ends.told (omega (arith, four)) in
    memory_said (record { taken = g.F.Sink.taken; lost = g.F.Sink.failures }) _ _ t.why _ t.status_is four t.said

pub returns-clause-unprinted : goal.returns-clause-unprinted
returns-clause-unprinted g c = c.call_over.ensures.ends.wanting
