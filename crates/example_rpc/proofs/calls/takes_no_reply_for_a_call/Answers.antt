use Rattle.rpc_message.specs.Message.{NotACall}
use Rattle.example_rpc.proofs.Reported.{another_type}
use Rattle.example_rpc.proofs.calls.takes_no_reply_for_a_call.Goals as goal

pub returns : goal.returns
returns c = c.read_call.ensures.only NotACall (another_type c.args.bytes.now c.requires)
