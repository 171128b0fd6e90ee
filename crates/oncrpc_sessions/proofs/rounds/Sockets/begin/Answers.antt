use Rattle.oncrpc_sessions.proofs.Going.{goes_none, goes_open}
use Rattle.oncrpc_sessions.proofs.rounds.Sockets.begin.Goals as goal

pub returns-in_default : goal.returns-in_default
returns-in_default c = λ rows. goes_none c.args.table.now rows

pub returns : goal.returns
returns c =
    goes_open _ c.args.table.now c.open-opened.new.self c.open-opened.result c.open-opened.ensures.proceeds
    c.open-opened.ensures.stays
