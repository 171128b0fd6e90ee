-- What is kept is a session before its first byte.
use Rattle.std.proofs.Common.{refl, sym, ap, ◌∙◌, Option, Some, option_map}
use Rattle.registry_answer.specs.Views.{netid_of}
use Rattle.registry_sessions.specs.declared.origin.Origin.{Origin}
use Rattle.c_registry.specs.declared.connected.Connected.{Connected}
use Rattle.c_registry.specs.Sessions.{session_of}
use Rattle.c_registry.proofs.session.start_in.Goals as goal

pub returns-in-Ok : goal.returns-in-Ok
returns-in-Ok c =
    let s = c.start.ensures in
    rw (sym c.in-Some-caller_of.ensures) (
      c.in-Some.ensures.0,
      refl,
      c.start.result,
      ap (λ (o : Option Connected). option_map session_of o)
          (c.keep.ensures ∙ ap (λ (t : Connected). Some t) c.in-Ok.ensures.ok),
      record {
        reads = s.reads;
        replies = s.replies;
        over = ap (λ (o : Origin). netid_of o.transport) s.origin ∙ c.in-Some.ensures.1;
        of = ap (λ (o : Origin). o.caller) s.origin;
        bound_is = s.bound;
      },
    )
