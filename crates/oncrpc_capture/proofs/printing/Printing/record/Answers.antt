use Rattle.std.proofs.Common.{ap, refl, sym}
use Rattle.std.specs.Prelude.{is_some}
use Rattle.oncrpc_messages.specs.Closing.{closed}
use Rattle.oncrpc_capture.specs.Entries.{place_of}
use Rattle.oncrpc_capture.specs.Texts.{behind, front_text}
use Rattle.oncrpc_capture.proofs.Printed.{message_counted, message_said, on_ok}
use Rattle.oncrpc_capture.proofs.printing.Printing.record.Goals as goal

pub returns-in_ok-count-in-Some : goal.returns-in_ok-count-in-Some
returns-in_ok-count-in-Some g c =
    let judged = c.in_ok-judged-in-Some.judged in
    message_counted c.args.self.now _ c.args.seen c.args.way c.args.bytes.now judged.found judged.asked
    c.in_ok-judged-in-Some.ensures.found c.in_ok-judged-in-Some.ensures.heard c.in_ok-judged-in-Some.ensures.terms
    (sym (ap (λ o. is_some o) c.in-Some.is)) _ (ap (λ o. is_some o) c.in-Some.is)

pub returns-in_ok-told-in-None : goal.returns-in_ok-told-in-None
returns-in_ok-told-in-None g c =
    let page = c.in_ok-told-in-None.told.page in
    on_ok _
    (λ w. message_said c.args.self.now _ c.args.seen c.args.way c.args.bytes.now page c.in_ok-told-in-None.told.asked
    c.in_ok-told-in-None.ensures.told c.in_ok-told-in-None.ensures.heard c.in_ok-told-in-None.ensures.terms refl _ _ _
    (ap (λ o. is_some o) c.in-None.is)
    (ap (λ k. behind k.form (front_text k.form c.args.seen)
    (closed k.form page.text.items page.verdict (place_of page.verdict))) c.in_ok-told-in-None.ensures.terms) w)
    c.put_message.ensures
