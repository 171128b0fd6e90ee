use Rattle.oncrpc_watch.proofs.Recalled.{recalls_nothing}
use Rattle.oncrpc_watch.proofs.watch.Watch.new.Goals as goal

pub returns-clause-nothing : goal.returns-clause-nothing
returns-clause-nothing c = (recalls_nothing _ c.new.ensures.empty c.new.ensures.spare, c.none.ensures)
