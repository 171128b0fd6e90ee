use Rattle.rpc_message.specs.Message.{NotACall}
use Rattle.example_rpc.proofs.Reported.{no_procedure}
use Rattle.example_rpc.proofs.calls.wants_the_procedure.Goals as goal

pub returns : goal.returns
returns c = c.read_call.ensures.only NotACall (no_procedure c.args.bytes.now c.requires)
