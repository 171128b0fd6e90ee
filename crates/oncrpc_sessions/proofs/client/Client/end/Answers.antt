use Rattle.std.proofs.Common.{[]}
use Rattle.oncrpc_sessions.proofs.Going.{goes_same}
use Rattle.oncrpc_sessions.proofs.client.Client.end.Goals as goal

pub returns : goal.returns
returns c =
    goes_same c.args.table.now c.end-ended.new.self c.end-ended.result [] c.end-ended.ensures.proceeds
    c.end-ended.ensures.same
