use Rattle.rpc_engine.proofs.Cases.{one_case, some_case}
use Rattle.rpc_engine.proofs.laws.messages_have_one_case.Goals as goal

pub returns-clause-exclusive : goal.returns-clause-exclusive
returns-clause-exclusive c = one_case c.reply_bytes_are_exact.ensures

pub returns-clause-covering : goal.returns-clause-covering
returns-clause-covering c = some_case
