use Rattle.std.proofs.Common.{◌∙◌}
use Rattle.rpc_message.specs.Heads.{accepted}
use Rattle.rpc_message.specs.Message.{SystemErr}
use Rattle.rpc_message.specs.Spelling.{reply}
use Rattle.rpc_message.specs.View.{lent_call_view}
use Rattle.registry_answer.specs.Owners.{owner_text}
use Rattle.registry_answer.specs.Views.{netid_of}
use Rattle.registry_answer.proofs.Calls.{pushes_accepted}
use Rattle.registry_answer.proofs.Chains.{begins_added}
use Rattle.registry_answer.proofs.Space.{has_space, cut_behind, pushes_cut}
use Rattle.registry_answer.proofs.answering.push_sendable.Goals as goal

pub returns-then-not-carries-clause-ok : goal.returns-then-not-carries-clause-ok
returns-then-not-carries-clause-ok g c =
    pushes_cut c.args.directory.now (netid_of c.args.asked.now.transport) (owner_text c.args.asked.now.owner)
    (lent_call_view c.args.asked.now.call) c.args.out.now.items _ _ _ _ _ c.in_ok-push_accepted.ensures.ok
    (c.len.ensures ∙ c.push_accepted.new.out.ok.0)
    (c.len-before.ensures ∙ c.args.out.now.ok.0) c.carries.ensures c.if-not-carries.true _
    c.cut_to_system_error.ensures c.requires.word c.requires.caller

pub returns-then-not-carries-clause-begins : goal.returns-then-not-carries-clause-begins
returns-then-not-carries-clause-begins g c =
    begins_added c.args.out.now.items (reply (accepted c.args.asked.now.call.xid SystemErr)) _
    (cut_behind c.args.directory.now (netid_of c.args.asked.now.transport) (owner_text c.args.asked.now.owner)
    (lent_call_view c.args.asked.now.call) c.args.out.now.items _ _ _ _ _ c.in_ok-push_accepted.ensures.ok
    (c.len.ensures ∙ c.push_accepted.new.out.ok.0)
    (c.len-before.ensures ∙ c.args.out.now.ok.0) c.carries.ensures c.if-not-carries.true _
    c.cut_to_system_error.ensures)

pub returns-else-not-carries-clause-ok : goal.returns-else-not-carries-clause-ok
returns-else-not-carries-clause-ok g c =
    pushes_accepted c.args.directory.now (netid_of c.args.asked.now.transport) (owner_text c.args.asked.now.owner)
    (lent_call_view c.args.asked.now.call) c.args.out.now.items _ _ c.requires.word c.requires.caller
    c.in_ok-push_accepted.ensures.ok
    (has_space c.args.directory.now (netid_of c.args.asked.now.transport) (owner_text c.args.asked.now.owner)
    (lent_call_view c.args.asked.now.call) c.args.out.now.items _ _ _ _ _ c.in_ok-push_accepted.ensures.ok
    (c.len.ensures ∙ c.push_accepted.new.out.ok.0)
    (c.len-before.ensures ∙ c.args.out.now.ok.0) c.carries.ensures c.if-not-carries.false)
