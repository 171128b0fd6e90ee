use Rattle.std.proofs.Common.{arith}
use Rattle.rpc_engine.proofs.Sessions.{send_plain}
use Rattle.rpc_engine.proofs.session.send.Goals as goal

pub returns-in-Ok-clause-sent : goal.returns-in-Ok-clause-sent
returns-in-Ok-clause-sent g c = λ front reply e h.
    send_plain c.normal_forms_join.ensures.length c.args.has_front front reply c.args.buffer.now.items
    c.deref-else-has_front.result.now c.len.result _ _ c.if-has_front.false e h c.deref-else-has_front.ensures.value
    (omega (arith, c.len.ensures, c.args.buffer.now.ok.0)) c.in-Ok.ensures.ok
