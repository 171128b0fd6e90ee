-- A line was said, as far as that could be done.
use Rattle.std.proofs.Common.{refl, true}
use Rattle.oncrpc_tasks.proofs.Saying.{line_said}
use Rattle.oncrpc_call.proofs.call.say_refusal.Goals as goal

pub returns-clause-said : goal.returns-clause-said
returns-clause-said g c =
    line_said (record { taken = g.F.Sink.taken; lost = g.F.Sink.failures }) _ _ _ true c.write_whole.result refl
    c.write_whole.ensures.ok c.write_whole.ensures.cut c.write_whole.ensures.one_failed
