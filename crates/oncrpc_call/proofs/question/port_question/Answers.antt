-- The question can be sent.
use Rattle.std.proofs.Common.{rules}
use Rattle.oncrpc_call.proofs.Short.{can_be_sent}
use Rattle.oncrpc_call.proofs.question.port_question.Goals as goal

pub returns-clause-ready : goal.returns-clause-ready
returns-clause-ready c =
    can_be_sent c.args.registry c.args.program c.args.version c.args.over _ (search rules)
