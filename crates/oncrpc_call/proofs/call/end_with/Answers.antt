-- The result was printed, or why there is none was said.
use Rattle.oncrpc_call.specs.Asked.{wanted_of}
use Rattle.oncrpc_call.proofs.Ending.{failure_ends, refusal_ends, value_ends}
use Rattle.oncrpc_call.proofs.Telling.{refusal_told, value_shown}
use Rattle.oncrpc_call.proofs.call.end_with.Goals as goal

pub returns-in-Err : goal.returns-in-Err
returns-in-Err g c =
    failure_ends (wanted_of c.args.asked.now) c.args.answer _ _ _ _ _ _ c.in-Err.failure _
    c.say_failure.ensures.status c.in-Err.ensures.failed c.say_failure.ensures.said

pub returns-in-Value : goal.returns-in-Value
returns-in-Value g c =
    value_ends (wanted_of c.args.asked.now) c.args.answer _ _ _ _ _ _ _ c.in-Value.text.items _
    (value_shown (wanted_of c.args.asked.now) c.args.answer c.in-Ok.page c.in-Ok.ensures.told c.in-Value.text
    c.in-Value.is) (rw c.deref.ensures.value at c.print_value.ensures)

pub returns-in-Refusal : goal.returns-in-Refusal
returns-in-Refusal g c =
    refusal_ends (wanted_of c.args.asked.now) c.args.answer _ _ _ _ _ _ c.in-Refusal.line.items _
    (refusal_told (wanted_of c.args.asked.now) c.args.answer c.in-Ok.page c.in-Ok.ensures.told c.in-Refusal.line
    c.in-Refusal.is) c.say_refusal.ensures.status
    (rw c.deref-in-Refusal.ensures.value at c.say_refusal.ensures.said)
