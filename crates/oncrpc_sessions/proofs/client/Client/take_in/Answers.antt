use Rattle.oncrpc_sessions.proofs.Going.{goes_none, goes_taken}
use Rattle.oncrpc_sessions.proofs.client.Client.take_in.Goals as goal

pub returns-then-not-is_to_be_taken : goal.returns-then-not-is_to_be_taken
returns-then-not-is_to_be_taken g c = goes_none c.args.table.now c.args.directory.now

pub returns : goal.returns
returns g c =
    goes_taken c.args.table.now c.take_in-taken.new.self c.args.directory.now c.take_in-taken.new.directory
    c.args.self.now.number c.deref.result.now c.take_in-taken.result c.take_in-taken.ensures.proceeds
    c.take_in-taken.ensures.same
