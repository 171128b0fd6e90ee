-- What is read as it is, shown and not.
use Rattle.oncrpc_tasks.specs.Right.{asked_of}
use Rattle.oncrpc_tasks.specs.Private.Judged.{keeps_of}
use Rattle.oncrpc_tasks.proofs.Showing.{input_shown, shows_retained}
use Rattle.oncrpc_tasks.proofs.check.answer_to.Goals as goal

pub returns-in_err-answer-clause-reads : goal.returns-in_err-answer-clause-reads
returns-in_err-answer-clause-reads g c =
    let q = asked_of c.args.question.now in
    input_shown q _ c.if-question.false _ _ _ _ c.judge_over.ensures.reads

pub returns-in_err-shown-clause-reads : goal.returns-in_err-shown-clause-reads
returns-in_err-shown-clause-reads g c =
    let q = asked_of c.args.question.now in
    input_shown q _ c.if-question.false _ _ _ _ c.judge_over.ensures.reads

pub returns-in_ok-shown-clause-right : goal.returns-in_ok-shown-clause-right
returns-in_ok-shown-clause-right g c =
    let q = asked_of c.args.question.now in
    rw c.if-question.false (shows_retained q (keeps_of q.form) _ _ c.in_ok-answer.bytes.items _ _
    c.in_ok-answer.ensures.retained
    c.in_ok-answer.ensures.right
    (rw c.deref.ensures.value at c.in_ok-shown.ensures.right))

pub returns-in_ok-shown-clause-reads : goal.returns-in_ok-shown-clause-reads
returns-in_ok-shown-clause-reads g c =
    let q = asked_of c.args.question.now in
    input_shown q _ c.if-question.false _ _ _ _ c.judge_over.ensures.reads
