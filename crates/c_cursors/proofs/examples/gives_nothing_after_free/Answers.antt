-- Where no cursor is held the answer is that.
use Rattle.std.proofs.Common.{sym, ap, ◌∙◌}
use Rattle.c_cursors.specs.Giving.{Lends}
use Rattle.c_cursors.proofs.Answered.{none_given, none_passed}
use Rattle.c_cursors.proofs.examples.gives_nothing_after_free.Goals as goal

pub returns-clause-statuses : goal.returns-clause-statuses
returns-clause-statuses c =
    let t = c.next_by_cursor-given.ensures.answer in
    let n = none_given _ _ _ _ _ t.0 (rw c.free_cursor.ensures at t.1) in
    let p = c.skip_by_cursor-passed.ensures.answer in (
      (λ e. n.0 (sym t.2 ∙ e)),
      (λ e. none_passed _ _ _ _ p.0 (rw n.1 at p.1) (sym p.2 ∙ e)),
    )

pub returns-clause-part : goal.returns-clause-part
returns-clause-part c =
    let t = c.next_by_cursor-given.ensures.answer in
    ap (λ (l : Lends). l.part) (none_given _ _ _ _ _ t.0 (rw c.free_cursor.ensures at t.1)).2

pub returns-clause-buffer : goal.returns-clause-buffer
returns-clause-buffer c =
    let t = c.next_by_cursor-given.ensures.answer in
    ap (λ (l : Lends). l.buffer) (none_given _ _ _ _ _ t.0 (rw c.free_cursor.ensures at t.1)).2
