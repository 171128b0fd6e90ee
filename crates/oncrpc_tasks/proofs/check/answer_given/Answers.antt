-- The bytes of a text are judged in one piece, and shown.
use Rattle.oncrpc_tasks.specs.Right.{asked_of}
use Rattle.oncrpc_tasks.proofs.Begins.{given_is_right}
use Rattle.oncrpc_tasks.proofs.Showing.{shows_all}
use Rattle.oncrpc_tasks.proofs.check.answer_given.Goals as goal

pub returns-in_ok-shown-in-Bytes-clause-right : goal.returns-in_ok-shown-in-Bytes-clause-right
returns-in_ok-shown-in-Bytes-clause-right c =
    let q = asked_of c.args.question.now in
    given_is_right q c.args.given.now c.in-Bytes.bytes _ _ c.in-Bytes.is
    (shows_all q c.in-Bytes.bytes.items _ _
    (rw c.deref.ensures.value at c.in_ok-answer-in-Bytes.ensures.right)
    (rw c.deref-in-Bytes.ensures.value at c.in_ok-shown-in-Bytes.ensures.right))
