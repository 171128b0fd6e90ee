use Rattle.rpc_message.specs.View.{lent_call_view}
use Rattle.registry_answer.specs.Views.{netid_of}
use Rattle.registry_answer.proofs.Chains.{on_ok}
use Rattle.registry_answer.proofs.Calls.{pushes_auth_error}
use Rattle.registry_answer.proofs.answering.push_call.Goals as goal

pub push_sendable-requires-clause-caller : goal.push_sendable-requires-clause-caller
push_sendable-requires-clause-caller g c = rw c.in-Owner.is at c.caller_of.ensures

pub returns-in-Refused-clause-ok : goal.returns-in-Refused-clause-ok
returns-in-Refused-clause-ok g c =
    let is = rw c.in-Refused.is at c.caller_of.ensures in
    on_ok c.append_denial.result _ _ (pushes_auth_error c.args.directory.now (netid_of c.args.transport)
    (lent_call_view c.args.call.now) _ _ c.in-Refused.stat c.requires is)
    c.append_denial.ensures.ok
