-- The end of a session with a fault.
use Rattle.std.proofs.Common.{◌≡◌, Some, Result, Ok, Err, is_some, true≢false, sym, ap, ◌∙◌}
use Rattle.std.proofs.lemmas.Option.{same_Some}
use Rattle.registry_sessions.specs.declared.fault.SessionFault.{SessionFault}
use Rattle.registry_sessions.specs.declared.session.Session.{Session}
use Rattle.registry_sessions.specs.Represents.{Concludes, fault_in}

pub ends_broken : (old new : Session) (r : Result (Unit {0}) SessionFault) (f : SessionFault) → Concludes old new r
    → fault_in old ≡ Some f → (r ≡ Err f) × (new ≡ old)
ends_broken old new (Ok u) f c e = absurd (true≢false (ap is_some (sym e ∙ c.1)))
ends_broken old new (Err g) f c e =
    (ap Err (same_Some g f (sym c.0 ∙ ap fault_in (c.2 f e) ∙ e)), c.2 f e)
