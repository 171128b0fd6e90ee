-- The line of the failure was said.
use Rattle.oncrpc_encode.proofs.encode.say_failure.Goals as goal

pub returns-clause-said : goal.returns-clause-said
returns-clause-said g c = rw c.line.ensures at c.say_line.ensures
