-- What was written stands at the front of the buffer, and is the call that is read.
use Rattle.std.proofs.Common.{sym, ◌∙◌}
use Rattle.rpc_message.specs.Message.{Whole}
use Rattle.c_messages.specs.Calls.{call_of}
use Rattle.c_messages.proofs.Written.{call_written}
use Rattle.c_messages.proofs.examples.reads_the_call_that_was_written.Goals as goal

pub returns : goal.returns
returns c = λ e.
    let w = c.write_call_parts-written.ensures in
    let a = c.args in
    let asked = call_of a.call.now a.credential.now a.verifier.now a.arguments.now in
    c.read_call_parts.ensures.only (Whole asked) (call_written asked _ _ _ w.0 w.1 (sym e ∙ w.2))
