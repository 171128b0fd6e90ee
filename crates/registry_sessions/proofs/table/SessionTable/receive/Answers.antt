use Rattle.std.proofs.Common.{subst}
use Rattle.registry_rows.specs.Ports.{udp}
use Rattle.registry_callers.specs.Appending.{AppendsFrom}
use Rattle.registry_sessions.proofs.Calls.{receives}
use Rattle.registry_sessions.proofs.table.SessionTable.receive.Goals as goal

pub returns : goal.returns
returns g c =
    receives c.args.self.now c.args.caller c.args.directory.now c.append_answer_from.new.directory c.args.datagram.now
    c.append_answer_from.new.out.items c.append_answer_from.result
    (subst (λ x. AppendsFrom c.args.caller c.args.directory.now udp c.args.datagram.now x
    c.append_answer_from.new.directory
    c.append_answer_from.new.out.items c.append_answer_from.result) c.clear.ensures.items c.append_answer_from.ensures)
