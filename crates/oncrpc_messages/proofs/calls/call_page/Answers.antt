use Rattle.std.proofs.Common.{refl}
use Rattle.rpc_message.specs.View.{lent_call_view}
use Rattle.oncrpc_messages.specs.Settings.{settings_of}
use Rattle.oncrpc_messages.proofs.Kept.{call_kept}
use Rattle.oncrpc_messages.proofs.calls.call_page.Goals as goal

pub returns : goal.returns
returns c =
    call_kept c.args.reading.now.show (settings_of c.args.reading.now.settings.now) c.args.bytes.now
    (lent_call_view c.args.call.now) _ _ _ _ _ c.in_ok-body.body.text.items _ c.in_ok-body.body.verdict c.requires
    c.procedure-procedure.ensures refl c.name_of-name.ensures c.in_ok-fields.ensures c.in_ok-body.ensures
    (rw c.deref.ensures.value at c.in_ok-text.ensures)
