-- The law of callers says it of what the handle holds.
use Rattle.c_registry.proofs.Afar.{stays}
use Rattle.c_registry.proofs.session_examples.takes_no_remote_change.Goals as goal

pub returns : goal.returns
returns c = λ d read change h l was is.
    let a = c.answer_record_from.ensures in
    stays c.remote_is_denied.ensures d _ _ read change h l _ _ _ is a.0 (rw was at a.1)
