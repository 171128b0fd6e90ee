use Rattle.oncrpc_watch.proofs.Joined.{goes_standing, tells_more, tells_none}
use Rattle.oncrpc_watch.proofs.Stopped.{on_more}
use Rattle.oncrpc_watch.proofs.both.read_on.Goals as goal

pub calls-init : goal.calls-init
calls-init g c = record { standing = c.requires; tells = tells_none _ _ _ }

pub calls-preserved : goal.calls-preserved
calls-preserved g c = record {
  standing = goes_standing _ _ _ c.in-Ok-true.ensures.tells.on c.calls.invariant.standing;
  tells = tells_more _ _ _ _ _ _ _ _ _ c.calls.invariant.tells c.in-Ok-true.ensures.tells;
}

pub returns-in-Ok-false-clause-tells : goal.returns-in-Ok-false-clause-tells
returns-in-Ok-false-clause-tells g c = tells_more _ _ _ _ _ _ _ _ _ c.calls.invariant.tells c.in-Ok-false.ensures.tells

pub returns-in-Err-clause-stops : goal.returns-in-Err-clause-stops
returns-in-Err-clause-stops g c = on_more _ _ _ _ _ _ _ _ _ c.calls.invariant.tells c.in-Err.ensures.stops
