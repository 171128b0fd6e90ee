use Rattle.rpc_message.specs.Message.{BadCred}
use Rattle.example_rpc.proofs.Reported.{long_credential}
use Rattle.example_rpc.proofs.calls.reports_the_long_credential.Goals as goal

pub returns : goal.returns
returns c = c.read_call.ensures.only (BadCred 1) (long_credential c.args.bytes.now c.requires)
