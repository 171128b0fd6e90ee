use Rattle.std.proofs.Common.{ap, is_some, refl, sym}
use Rattle.registry_sessions.proofs.Calls.{takes_out, steps_at}
use Rattle.registry_sessions.proofs.table.SessionTable.took.Goals as goal

pub returns-in-Some-clause-proceeds : goal.returns-in-Some-clause-proceeds
returns-in-Some-clause-proceeds c =
    let at = sym c.in-Some.ensures.value in
    rw at (takes_out c.args.self.now _ c.args.number c.in-Some.session.now c.took.new.self at
    ((c.get_mut.follows.holds c.took.new.self).3 (ap is_some at)).0 c.args.n c.took.ensures.took)

pub returns-in-Some-clause-steps : goal.returns-in-Some-clause-steps
returns-in-Some-clause-steps c =
    let at = sym c.in-Some.ensures.value in
    rw at (steps_at c.args.self.now _ c.args.number c.in-Some.session.now c.took.new.self at
    ((c.get_mut.follows.holds c.took.new.self).3 (ap is_some at)).0 (refl, refl) _
    (c.took.ensures.took, c.took.ensures.output))
