use Rattle.std.proofs.Common.{refl}
use Rattle.std.proofs.lemmas.Result.{err_from_is_err_and}
use Rattle.oncrpc_watch.proofs.Recalled.{recalls_call, recalls_neither, recalls_reply, recalls_same}
use Rattle.oncrpc_watch.proofs.watch.Watch.note.Goals as goal

pub returns-in_ok-note-in-Call-clause-recalls : goal.returns-in_ok-note-in-Call-clause-recalls
returns-in_ok-note-in-Call-clause-recalls c = λ history r. rw c.in-Call.is (recalls_call _ _ history _ _ _ _ _ r refl
    c.in_ok-note-in-Call.ensures.notes)

pub returns-in_err-note-in-Call-clause-unchanged : goal.returns-in_err-note-in-Call-clause-unchanged
returns-in_err-note-in-Call-clause-unchanged c =
    let p = err_from_is_err_and c.from_residual.result c.from_residual.ensures.1 in
    rw p.1 (λ history r. recalls_same _ _ history c.in_err-note-in-Call.ensures.unchanged r)

pub returns-in-Reply-clause-recalls : goal.returns-in-Reply-clause-recalls
returns-in-Reply-clause-recalls c = λ history r. rw c.in-Reply.is (recalls_reply _ _ history _ _ _ r
    c.take-answered.ensures.answered)

pub returns-in-Neither-clause-recalls : goal.returns-in-Neither-clause-recalls
returns-in-Neither-clause-recalls c = λ history r. rw c.in-Neither.is (recalls_neither _ history _ _ r)
