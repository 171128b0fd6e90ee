use Rattle.std.proofs.Common.{sym, ◌∙◌}
use Rattle.rpc_message.specs.View.{lent_call_view}
use Rattle.registry_answer.specs.Views.{netid_of}
use Rattle.registry_callers.proofs.Written.{unset_appends}
use Rattle.registry_callers.proofs.answering.append_taken.Goals as goal

pub returns-else-is_set : goal.returns-else-is_set
returns-else-is_set g c =
    let a = c.args.asked.now in
    unset_appends a.caller c.args.directory.now (netid_of a.transport) a.message.now c.args.out.now.items
    (lent_call_view a.call) c.args.message.now c.requires.taken c.append_answer.new.directory
    c.append_answer.new.out.items c.requires.change (sym c.is_set.ensures ∙ c.if-is_set.false)
    c.append_answer.result c.append_answer.ensures
