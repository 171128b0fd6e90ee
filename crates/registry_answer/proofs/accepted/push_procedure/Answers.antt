use Rattle.rpc_message.specs.View.{lent_call_view}
use Rattle.registry_dumps.specs.Dir.{dir_kinds}
use Rattle.registry_answer.specs.Owners.{owner_text}
use Rattle.registry_answer.specs.Views.{netid_of}
use Rattle.registry_answer.proofs.Chains.{on_ok}
use Rattle.registry_answer.proofs.Statuses.{pushes_null, pushes_dump_2, pushes_dump_3}
use Rattle.registry_answer.proofs.accepted.push_procedure.Goals as goal

pub returns-in-Null-clause-ok : goal.returns-in-Null-clause-ok
returns-in-Null-clause-ok g c =
    let a = c.args.asked.now in
    on_ok c.append_head.result _ _ (pushes_null _ (netid_of a.transport) (owner_text a.owner)
    (lent_call_view a.call) _ _ (c.whole_exactly.ensures dir_kinds) (rw c.in-Null.is at c.requires))
    c.append_head.ensures.ok

pub returns-in_ok-append_head-in-DumpPorts-clause-ok : goal.returns-in_ok-append_head-in-DumpPorts-clause-ok
returns-in_ok-append_head-in-DumpPorts-clause-ok g c =
    let a = c.args.asked.now in
    on_ok c.push_mappings.result _ _
    (λ e. pushes_dump_2 _ (netid_of a.transport) (owner_text a.owner) (lent_call_view a.call) _ _
    (c.whole_exactly.ensures dir_kinds) c.append_head-in-DumpPorts.new.out.items (rw c.in-DumpPorts.is at c.requires)
    c.in_ok-append_head-in-DumpPorts.ensures.ok e c.push_mappings.ensures.few)
    c.push_mappings.ensures.ok

pub returns-in_ok-append_head-in-Dump-clause-ok : goal.returns-in_ok-append_head-in-Dump-clause-ok
returns-in_ok-append_head-in-Dump-clause-ok g c =
    let a = c.args.asked.now in
    on_ok c.push_rows.result _ _
    (λ e. pushes_dump_3 _ (netid_of a.transport) (owner_text a.owner) (lent_call_view a.call) _ _
    (c.whole_exactly.ensures dir_kinds) c.append_head-in-Dump.new.out.items (rw c.in-Dump.is at c.requires)
    c.in_ok-append_head-in-Dump.ensures.ok e c.push_rows.ensures.few)
    c.push_rows.ensures.ok
