use Rattle.std.proofs.Common.{refl}
use Rattle.rpc_message.specs.View.{reply_view}
use Rattle.oncrpc_messages.specs.Settings.{settings_of}
use Rattle.oncrpc_messages.proofs.Kept.{reply_kept}
use Rattle.oncrpc_messages.proofs.replies.reply_page.Goals as goal

pub returns : goal.returns
returns c =
    reply_kept c.args.reading.now.show (settings_of c.args.reading.now.settings.now) c.args.asked c.args.bytes.now
    (reply_view c.args.reply.now) _ _ _ _ c.in_ok-body.body.text.items _ c.in_ok-body.body.verdict c.requires
    c.procedure_of-procedure.ensures c.kinds_of-kinds.ensures.kinds refl c.name_of-name.ensures c.in_ok-body.ensures
    (rw c.deref.ensures.value at c.in_ok-text.ensures)
