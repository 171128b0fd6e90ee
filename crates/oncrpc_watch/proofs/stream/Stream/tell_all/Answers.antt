use Rattle.oncrpc_watch.proofs.Joined.{goes_standing, tells_more, tells_none}
use Rattle.oncrpc_watch.proofs.Stopped.{on_more}
use Rattle.oncrpc_watch.proofs.stream.Stream.tell_all.Goals as goal

pub records-init : goal.records-init
records-init g c = record { standing = c.requires.standing; tells = tells_none _ _ _ }

pub records-preserved : goal.records-preserved
records-preserved g c = record {
  standing = goes_standing _ _ _ c.in-Ok-true.ensures.tells.on c.records.invariant.standing;
  tells = tells_more _ _ _ _ _ _ _ _ _ c.records.invariant.tells c.in-Ok-true.ensures.tells;
}

pub returns-in-Ok-false-clause-tells : goal.returns-in-Ok-false-clause-tells
returns-in-Ok-false-clause-tells g c =
    tells_more _ _ _ _ _ _ _ _ _ c.records.invariant.tells c.in-Ok-false.ensures.tells

pub returns-in-Ok-false-clause-ended : goal.returns-in-Ok-false-clause-ended
returns-in-Ok-false-clause-ended g c = c.in-Ok-false.ensures.ended c.in-Ok-false.field-0-test

pub returns-in-Err-clause-stops : goal.returns-in-Err-clause-stops
returns-in-Err-clause-stops g c = on_more _ _ _ _ _ _ _ _ _ c.records.invariant.tells c.in-Err.ensures.stops
