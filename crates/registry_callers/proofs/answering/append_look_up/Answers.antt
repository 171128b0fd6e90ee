use Rattle.std.proofs.Common.{refl, true, false, Some}
use Rattle.rpc_message.specs.View.{lent_call_view}
use Rattle.registry_answer.specs.Views.{netid_of}
use Rattle.registry_callers.proofs.LookUps.{look_up_stays}
use Rattle.registry_callers.proofs.Written.{refused, look_up_silent, look_up_told, all_added}
use Rattle.registry_callers.proofs.answering.append_look_up.Goals as goal

pub returns-in-Nothing : goal.returns-in-Nothing
returns-in-Nothing g c =
    let a = c.args.asked.now in (
      look_up_silent a.caller c.args.directory.now (netid_of a.transport) a.message.now c.args.out.now.items
          (lent_call_view a.call) c.requires.call c.append_answer.new.directory c.requires.look_up
          c.in-Nothing.ensures.0,
      refl,
    )

pub returns-in-Reply : goal.returns-in-Reply
returns-in-Reply g c =
    let a = c.args.asked.now in
    let h = all_added c.args.directory.now (netid_of a.transport) a.message.now c.new-reply.result.items
    c.append_answer.new.directory c.append_answer.new.out.items c.new-reply.ensures.items c.in-Reply.ensures in
    look_up_told a.caller c.args.directory.now (netid_of a.transport) a.message.now c.args.out.now.items
    (lent_call_view a.call) c.requires.call c.append_answer.new.directory c.requires.look_up
    c.append_answer.new.out.items c.append_told.new.out.items c.append_told.result h.0 h.1
    (look_up_stays c.args.directory.now (netid_of a.transport) (lent_call_view a.call) c.requires.look_up
    c.five_cases.ensures.exclusive a.message.now c.requires.bytes c.requires.call false c.append_answer.new.directory
    (Some c.append_answer.new.out.items) h.0)
    c.append_told.ensures

pub returns-in-OutOfMemory : goal.returns-in-OutOfMemory
returns-in-OutOfMemory g c =
    let a = c.args.asked.now in (
      refused a.caller c.args.directory.now (netid_of a.transport) a.message.now c.args.out.now.items
          (lent_call_view a.call) c.requires.call c.append_answer.new.directory a.call.xid refl
          (look_up_stays c.args.directory.now (netid_of a.transport) (lent_call_view a.call) c.requires.look_up
          c.five_cases.ensures.exclusive a.message.now c.requires.bytes c.requires.call true
          c.append_answer.new.directory _ c.in-OutOfMemory.ensures.0),
      refl,
    )
