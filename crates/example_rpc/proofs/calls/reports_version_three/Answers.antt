use Rattle.std.proofs.Common.{ℕ, List, ap, get_or}
use Rattle.rpc_message.specs.Message.{OtherVersion}
use Rattle.example_rpc.proofs.Reported.{version_three, takes_none}
use Rattle.example_rpc.proofs.calls.reports_version_three.Goals as goal

pub returns-clause-reported : goal.returns-clause-reported
returns-clause-reported c = c.read_call.ensures.only (OtherVersion 2 3) (version_three c.args.bytes.now c.requires)

pub returns-clause-no_memory : goal.returns-clause-no_memory
returns-clause-no_memory c =
    takes_none c.read_call.result c.args.bytes.now
    (ap (λ (t : List ℕ). get_or t 11 0) c.requires) c.read_call.ensures.memory
