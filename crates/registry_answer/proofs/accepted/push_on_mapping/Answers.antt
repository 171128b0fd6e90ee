use Rattle.std.proofs.Common.{subst, ℕ}
use Rattle.rpc_message.specs.View.{lent_call_view}
use Rattle.registry_answer.specs.Answer.{AreGarbage}
use Rattle.registry_answer.specs.Owners.{owner_text}
use Rattle.registry_answer.specs.Private.Table.{of_mapping}
use Rattle.registry_answer.specs.Views.{netid_of}
use Rattle.registry_answer.proofs.Chains.{on_ok}
use Rattle.registry_answer.proofs.Statuses.{pushes_garbage, pushes_set_2, pushes_unset_2, pushes_getport_2}
use Rattle.registry_answer.proofs.Entries.{takes_mapping}
use Rattle.registry_answer.proofs.accepted.push_on_mapping.Goals as goal

pub returns-in-None-clause-ok : goal.returns-in-None-clause-ok
returns-in-None-clause-ok g c =
    let a = c.args.asked.now in
    let call = lent_call_view a.call in
    on_ok c.append_head.result _ _
    (pushes_garbage _ (netid_of a.transport) (owner_text a.owner) call _ _ (of_mapping c.args.step) c.requires
    (subst (λ (n : ℕ). AreGarbage n call.args) (takes_mapping c.args.step) c.in-None.ensures))
    c.append_head.ensures.ok

pub returns-in-Set-clause-ok : goal.returns-in-Set-clause-ok
returns-in-Set-clause-ok g c =
    let a = c.args.asked.now in
    let m = c.in-Some.m in
    on_ok c.push_set_port.result _ _
    (pushes_set_2 _ (netid_of a.transport) (owner_text a.owner) (lent_call_view a.call) _ _ m.prog m.vers m.prot m.port
    c.in-Some.ensures _ (rw c.in-Set.is at c.requires))
    c.push_set_port.ensures.ok

pub returns-in-Unset-clause-ok : goal.returns-in-Unset-clause-ok
returns-in-Unset-clause-ok g c =
    let a = c.args.asked.now in
    let m = c.in-Some.m in
    on_ok c.push_unset_port.result _ _
    (pushes_unset_2 _ (netid_of a.transport) (owner_text a.owner) (lent_call_view a.call) _ _ m.prog m.vers m.prot
    m.port c.in-Some.ensures _ (rw c.in-Unset.is at c.requires))
    c.push_unset_port.ensures.ok

pub returns-in-GetPort-clause-ok : goal.returns-in-GetPort-clause-ok
returns-in-GetPort-clause-ok g c =
    let a = c.args.asked.now in
    let m = c.in-Some.m in
    on_ok c.push_port.result _ _
    (pushes_getport_2 _ (netid_of a.transport) (owner_text a.owner) (lent_call_view a.call) _ _ m.prog m.vers m.prot
    m.port c.in-Some.ensures (rw c.in-GetPort.is at c.requires))
    c.push_port.ensures.ok
