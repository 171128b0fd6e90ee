use Rattle.std.proofs.Common.{subst, ℕ}
use Rattle.rpc_message.specs.View.{lent_call_view}
use Rattle.registry_answer.specs.Answer.{AreGarbage}
use Rattle.registry_answer.specs.Owners.{owner_text}
use Rattle.registry_answer.specs.Private.Table.{of_rpcb}
use Rattle.registry_answer.specs.Views.{netid_of}
use Rattle.registry_answer.proofs.Chains.{on_ok}
use Rattle.registry_answer.proofs.Statuses.{pushes_garbage, pushes_set_3, pushes_unset_3, pushes_getaddr_3}
use Rattle.registry_answer.proofs.Statuses.{pushes_getversaddr_4}
use Rattle.registry_answer.proofs.Entries.{takes_rpcb}
use Rattle.registry_answer.proofs.accepted.push_on_rpcb.Goals as goal

pub returns-in-None-clause-ok : goal.returns-in-None-clause-ok
returns-in-None-clause-ok g c =
    let a = c.args.asked.now in
    let call = lent_call_view a.call in
    on_ok c.append_head.result _ _
    (pushes_garbage _ (netid_of a.transport) (owner_text a.owner) call _ _ (of_rpcb c.args.step) c.requires
    (subst (λ (n : ℕ). AreGarbage n call.args) (takes_rpcb c.args.step) c.in-None.ensures))
    c.append_head.ensures.ok

pub returns-in-Set-clause-ok : goal.returns-in-Set-clause-ok
returns-in-Set-clause-ok g c =
    let a = c.args.asked.now in
    let r = c.in-Some.r in
    on_ok c.push_set.result _ _
    (pushes_set_3 _ (netid_of a.transport) (owner_text a.owner) (lent_call_view a.call) _ _ r.prog r.vers r.netid.now
    r.address.now c.in-Some.ensures.owner c.in-Some.ensures.are _ (rw c.in-Set.is at c.requires))
    c.push_set.ensures.ok

pub returns-in-Unset-clause-ok : goal.returns-in-Unset-clause-ok
returns-in-Unset-clause-ok g c =
    let a = c.args.asked.now in
    let r = c.in-Some.r in
    on_ok c.push_unset.result _ _
    (pushes_unset_3 _ (netid_of a.transport) (owner_text a.owner) (lent_call_view a.call) _ _ r.prog r.vers r.netid.now
    r.address.now c.in-Some.ensures.owner c.in-Some.ensures.are _ (rw c.in-Unset.is at c.requires))
    c.push_unset.ensures.ok

pub returns-in-GetAddr-clause-ok : goal.returns-in-GetAddr-clause-ok
returns-in-GetAddr-clause-ok g c =
    let a = c.args.asked.now in
    let r = c.in-Some.r in
    on_ok c.push_address.result _ _
    (λ e. pushes_getaddr_3 _ (netid_of a.transport) (owner_text a.owner) (lent_call_view a.call) _ _ r.prog r.vers
    r.netid.now r.address.now c.in-Some.ensures.owner c.in-Some.ensures.are (rw c.in-GetAddr.is at c.requires) e
    c.push_address.ensures.few)
    c.push_address.ensures.ok

pub returns-in-GetVersAddr-clause-ok : goal.returns-in-GetVersAddr-clause-ok
returns-in-GetVersAddr-clause-ok g c =
    let a = c.args.asked.now in
    let r = c.in-Some.r in
    on_ok c.push_version_address.result _ _
    (λ e. pushes_getversaddr_4 _ (netid_of a.transport) (owner_text a.owner) (lent_call_view a.call) _ _ r.prog r.vers
    r.netid.now r.address.now c.in-Some.ensures.owner c.in-Some.ensures.are (rw c.in-GetVersAddr.is at c.requires) e
    c.push_version_address.ensures.few)
    c.push_version_address.ensures.ok
