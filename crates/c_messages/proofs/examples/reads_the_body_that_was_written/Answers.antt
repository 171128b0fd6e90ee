-- What was written stands at the front of the buffer, and is the body that is read.
use Rattle.std.proofs.Common.{sym, ◌∙◌}
use Rattle.c_messages.proofs.Written.{body_written}
use Rattle.c_messages.proofs.examples.reads_the_body_that_was_written.Goals as goal

pub returns : goal.returns
returns c = λ e.
    let w = c.write_auth_sys_parts-written.ensures in
    c.read_auth_sys_parts.ensures.only _ (body_written c.args.auth.now _ _ _ _ w.0 w.1 (sym e ∙ w.2))
