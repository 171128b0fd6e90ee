use Rattle.rpc_message.specs.Message.{BadVerf}
use Rattle.example_rpc.proofs.Reported.{long_verifier}
use Rattle.example_rpc.proofs.calls.reports_the_long_verifier.Goals as goal

pub returns : goal.returns
returns c = c.read_call.ensures.only (BadVerf 1) (long_verifier c.args.bytes.now c.requires)
