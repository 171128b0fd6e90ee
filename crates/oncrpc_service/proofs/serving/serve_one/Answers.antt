-- The line of the connection that came, or the part of it that was written.
use Rattle.oncrpc_service.specs.Connections.{connection_line}
use Rattle.oncrpc_service.proofs.Following.{one_served, one_stopped, line_is_some}
use Rattle.oncrpc_service.proofs.serving.serve_one.Goals as goal

pub returns-in-Ok-clause-served : goal.returns-in-Ok-clause-served
returns-in-Ok-clause-served g c =
    let line = c.print.ensures (connection_line c.args.number c.in-Ok.outcome) c.connection_line.ensures
    (line_is_some c.args.number c.in-Ok.outcome) in
    one_served _ c.args.number _ _ _ _ _ _ c.in-Ok.outcome c.print.result c.in-Ok.ensures.served
    c.in-Ok.ensures.none_failed line

pub returns-in-Ok-clause-stopped : goal.returns-in-Ok-clause-stopped
returns-in-Ok-clause-stopped g c =
    let line = c.print.ensures (connection_line c.args.number c.in-Ok.outcome) c.connection_line.ensures
    (line_is_some c.args.number c.in-Ok.outcome) in
    one_stopped _ c.args.number _ _ _ _ _ _ c.in-Ok.outcome c.print.result c.in-Ok.ensures.served line
