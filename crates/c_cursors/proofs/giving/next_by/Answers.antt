-- The cursor that is kept is the one that was taken, after the call.
use Rattle.std.proofs.Common.{◌≡◌, Some, refl, sym, ap, ◌∙◌}
use Rattle.c_cursors.specs.Held.{cursor_of}
use Rattle.c_cursors.specs.declared.state.State.{State}
use Rattle.c_cursors.proofs.giving.next_by.Goals as goal

pub returns-in-Some : goal.returns-in-Some
returns-in-Some c =
    let was : c.args.handle.now.held ≡ Some c.deref_mut.result.now =
    sym c.in-Some.ensures.taken ∙ ap (λ (s : State). Some s) (sym c.deref_mut.ensures.value) in
    rw (was, c.keep.ensures) (cursor_of c.next_of-answer.new.state, refl, c.next_of-answer.ensures)
