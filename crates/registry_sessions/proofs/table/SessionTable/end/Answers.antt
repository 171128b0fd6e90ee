use Rattle.std.proofs.Common.{ap, is_some, refl, sym}
use Rattle.registry_sessions.proofs.Calls.{concludes, steps_at}
use Rattle.registry_sessions.proofs.table.SessionTable.end.Goals as goal

pub returns-clause-proceeds : goal.returns-clause-proceeds
returns-clause-proceeds c =
    let at = sym c.in_ok-get_mut.ensures.value in
    concludes c.args.self.now _ c.args.number c.in_ok-get_mut.field-0.now c.end.new.self at
    ((c.get_mut.follows.holds c.end.new.self).3 (ap is_some at)).0
    c.end.result c.end.ensures.concludes c.end.ensures.output

pub returns-clause-steps : goal.returns-clause-steps
returns-clause-steps c =
    let at = sym c.in_ok-get_mut.ensures.value in
    steps_at c.args.self.now _ c.args.number c.in_ok-get_mut.field-0.now c.end.new.self at
    ((c.get_mut.follows.holds c.end.new.self).3 (ap is_some at)).0 (refl, refl) _
    (c.end.ensures.concludes, c.end.ensures.output)
