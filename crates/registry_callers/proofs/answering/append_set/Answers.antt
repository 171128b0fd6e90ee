use Rattle.std.proofs.Common.{refl}
use Rattle.rpc_message.specs.View.{lent_call_view}
use Rattle.registry_answer.specs.Views.{netid_of}
use Rattle.registry_callers.proofs.Written.{again_appends, set_appends, refused}
use Rattle.registry_callers.proofs.answering.append_set.Goals as goal

pub returns-in-Reply : goal.returns-in-Reply
returns-in-Reply g c =
    let a = c.args.asked.now in
    let h = c.in-Reply.ensures in
    again_appends a.caller c.args.directory.now (netid_of a.transport) a.message.now c.args.out.now.items
    (lent_call_view a.call) c.args.message.now c.requires.taken c.requires.set c.append_again.new.out.items
    h.1.0 h.0 h.1.1.0 h.1.1.1 h.1.1.2

pub returns-in-Other : goal.returns-in-Other
returns-in-Other g c =
    let a = c.args.asked.now in
    let h = c.in-Other.ensures in
    set_appends a.caller c.args.directory.now (netid_of a.transport) a.message.now c.args.out.now.items
    (lent_call_view a.call) c.args.message.now c.requires.taken c.requires.set c.append_answer.new.directory h.0 h.1.0
    c.append_again.new.out.items c.append_answer.new.out.items h.1.1.0 h.1.1.1 h.1.1.2
    c.append_answer.result c.append_answer.ensures

pub returns-in-OutOfMemory : goal.returns-in-OutOfMemory
returns-in-OutOfMemory g c =
    let a = c.args.asked.now in (
      refused a.caller c.args.directory.now (netid_of a.transport) a.message.now c.args.out.now.items
          (lent_call_view a.call) c.requires.taken.read c.args.directory.now a.call.xid refl refl,
      c.in-OutOfMemory.ensures,
    )
