use Rattle.std.proofs.Common.{ap, ◌∙◌}
use Rattle.rpc_message.proofs.CallLaws.{one_call}
use Rattle.oncrpc_watch.proofs.Answered.{call_no_reply}
use Rattle.oncrpc_watch.proofs.watch.program_of.Goals as goal

pub returns-in-Some-clause-call : goal.returns-in-Some-clause-call
returns-in-Some-clause-call c = λ k h.
    c.in-Some.ensures.2 ∙ ap (λ x. x.prog) (one_call c.in-Some.ensures.0 k _ c.in-Some.ensures.1 h)

pub returns-in-Some-clause-reply : goal.returns-in-Some-clause-reply
returns-in-Some-clause-reply c = λ r h. absurd (call_no_reply c.in-Some.ensures.0 r _ c.in-Some.ensures.1 h)
