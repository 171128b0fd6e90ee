-- What is done to the session is done to what the handle holds.
use Rattle.std.proofs.Common.{◌≡◌, refl, sym, ap, ◌∙◌, Some, None}
use Rattle.c_registry.specs.declared.connected.Connected.{Connected}
use Rattle.c_registry.specs.declared.connection.Connection.{Connection}
use Rattle.c_registry.specs.Sessions.{session_of}
use Rattle.c_registry.proofs.feeding.feed_session.Goals as goal
use Rattle.c_registry.proofs.feeding.feed_session.Goals.{in-Some, in-None}

pub returns : goal.returns
returns c = (
  c.match-taken.answer,
  elim c.match-taken.branch [
    | in-Some w ↦
        let was : c.args.handle.now.held ≡ Some w.deref_mut.result.now = sym w.in-Some.ensures.taken
        ∙ ap (λ (s : Connected). Some s) (sym w.deref_mut.ensures.value) in
        let now : c.match-taken.handle.held ≡ Some w.feed_over-answer.new.connected =
        ap (λ (h : Connection). h.held) w.handle-is
        ∙ w.keep.ensures in
        rw (was, now, w.answer-is, w.registry-is)
        (session_of w.feed_over-answer.new.connected, refl, w.feed_over-answer.ensures)
    | in-None w ↦
        let now : c.match-taken.handle.held ≡ None = ap (λ (h : Connection). h.held) w.handle-is ∙ c.taken.ensures.left
        in
        rw (sym w.in-None.ensures.taken, now, w.answer-is, w.registry-is) (refl, refl, refl)
  ],
  c.status.ensures,
  c.outcome.ensures,
)
