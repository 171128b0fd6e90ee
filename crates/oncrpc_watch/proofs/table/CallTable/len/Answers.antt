use Rattle.oncrpc_watch.proofs.Numbers.{has_calls}
use Rattle.oncrpc_watch.proofs.table.CallTable.len.Goals as goal

pub returns-clause-calls : goal.returns-clause-calls
returns-clause-calls c =
    has_calls c.args.self.now _ _ c.len.ensures.len c.len-2.ensures.len c.len.ensures.ordered
    c.len-2.ensures.ordered c.args.self.now.apart
