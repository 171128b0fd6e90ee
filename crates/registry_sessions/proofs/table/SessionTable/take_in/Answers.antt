use Rattle.std.proofs.Common.{ap, is_some, refl, sym}
use Rattle.registry_sessions.proofs.Calls.{takes_in, steps_at}
use Rattle.registry_sessions.proofs.table.SessionTable.take_in.Goals as goal

pub returns-in-Some-clause-proceeds : goal.returns-in-Some-clause-proceeds
returns-in-Some-clause-proceeds g c =
    let at = sym c.in-Some.ensures.value in
    takes_in c.args.self.now _ c.args.number c.in-Some.session.now c.take_in.new.self at
    ((c.get_mut.follows.holds c.take_in.new.self).3 (ap is_some at)).0
    c.args.directory.now c.take_in.new.directory c.args.piece.now c.take_in.result record {
      taken = c.take_in.ensures.taken;
      fault = c.take_in.ensures.fault;
      stays = c.take_in.ensures.stays;
      same_origin = c.take_in.ensures.origin;
    }

pub returns-in-Some-clause-steps : goal.returns-in-Some-clause-steps
returns-in-Some-clause-steps g c =
    let at = sym c.in-Some.ensures.value in
    steps_at c.args.self.now _ c.args.number c.in-Some.session.now c.take_in.new.self at
    ((c.get_mut.follows.holds c.take_in.new.self).3 (ap is_some at)).0 (refl, refl) _ record {
      taken = c.take_in.ensures.taken;
      fault = c.take_in.ensures.fault;
      stays = c.take_in.ensures.stays;
      same_origin = c.take_in.ensures.origin;
    }
