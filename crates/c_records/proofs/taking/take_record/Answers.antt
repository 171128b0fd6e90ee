-- What is done to the state is done to what the handle holds.
use Rattle.std.proofs.Common.{◌≡◌, refl, sym, ap, ◌∙◌, Some, None}
use Rattle.c_records.specs.declared.handle.Records.{Records}
use Rattle.c_records.specs.declared.state.State.{State}
use Rattle.c_records.specs.Held.{held_of}
use Rattle.c_records.proofs.taking.take_record.Goals as goal
use Rattle.c_records.proofs.taking.take_record.Goals.{in-Some, in-None}

pub returns : goal.returns
returns c = (
  c.match-taken.answer,
  elim c.match-taken.branch [
    | in-Some w ↦
        let was : c.args.handle.now.held ≡ Some w.deref_mut.result.now = sym w.in-Some.ensures.taken
        ∙ ap (λ (s : State). Some s) (sym w.deref_mut.ensures.value) in
        let now : c.match-taken.handle.held ≡ Some w.take_into-answer.new.state =
        ap (λ (h : Records). h.held) w.handle-is
        ∙ w.keep.ensures in
        rw (was, now, w.answer-is, w.buffer-is) (held_of w.take_into-answer.new.state, refl, w.take_into-answer.ensures)
    | in-None w ↦
        let now : c.match-taken.handle.held ≡ None = ap (λ (h : Records). h.held) w.handle-is ∙ c.taken.ensures.left in
        rw (sym w.in-None.ensures.taken, now, w.answer-is) (refl, refl, w.buffer-is)
  ],
  c.status.ensures,
  c.outcome.ensures,
)
