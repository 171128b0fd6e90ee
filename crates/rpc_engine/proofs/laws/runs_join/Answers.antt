use Rattle.rpc_engine.proofs.Runs.{runs_join}
use Rattle.rpc_engine.proofs.laws.runs_join.Goals as goal

pub returns : goal.returns
returns c = runs_join
