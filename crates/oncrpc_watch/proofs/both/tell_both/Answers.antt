use Rattle.std.proofs.Common.{subst, sym}
use Rattle.oncrpc_watch.specs.Private.Steps.{IsStanding}
use Rattle.std.proofs.lemmas.Result.{err_from_is_err_and}
use Rattle.oncrpc_watch.proofs.Joined.{both_first, both_none, both_reply, both_second, goes_standing, reads_ended}
use Rattle.oncrpc_watch.proofs.Joined.{reads_standing}
use Rattle.oncrpc_watch.proofs.Stopped.{both_stops_first, both_stops_read, both_stops_reply, both_stops_second}
use Rattle.oncrpc_watch.proofs.both.tell_both.Goals as goal

pub replies-init : goal.replies-init
replies-init g c = record {
  of_calls = c.requires.calls;
  of_replies = c.requires.replies;
  tells = both_none _ _ _ _;
}

pub replies-preserved : goal.replies-preserved
replies-preserved g c =
    let inv = c.replies.invariant in
    let read = rw c.in-Ok-true.field-0-test at c.in-Ok-true.ensures.reads in
    record {
      of_calls = goes_standing _ _ _ c.in_ok-read_on.ensures.tells.on inv.of_calls;
      of_replies = subst (λ r. IsStanding r) (sym c.tell.ensures.same)
          (reads_standing _ _ _ _ _ _ _ _ read inv.of_replies);
      tells = both_reply _ _ _ _ _ _ _ _ _ _ _ _ _ _ _ _ _ _ inv.tells read c.in_ok-read_on.ensures.tells
          c.tell.ensures.same c.in_ok-tell.ensures.prints;
    }

pub returns-in-Ok-false-clause-tells : goal.returns-in-Ok-false-clause-tells
returns-in-Ok-false-clause-tells g c =
    both_first _ _ _ _ _ _ _ _ _ _ _
    (both_second _ _ _ _ _ _ _ _ _ _ _ c.replies.invariant.tells
    (reads_ended _ _ _ _ _ _ _ (rw c.in-Ok-false.field-0-test at c.in-Ok-false.ensures.reads)))
    c.in_ok-tell_all-in-Ok-false.ensures.tells

pub returns-in-Err-clause-stops : goal.returns-in-Err-clause-stops
returns-in-Err-clause-stops g c = both_stops_second _ _ _ _ _ _ _ _ _ _ _ c.replies.invariant.tells
    c.in-Err.ensures.stops

pub returns-in_err-read_on-clause-stops : goal.returns-in_err-read_on-clause-stops
returns-in_err-read_on-clause-stops g c =
    let e = c.from_residual-in_err-read_on in
    let p = err_from_is_err_and e.result e.ensures.1 in
    rw (p.1, p.2) (both_stops_read _ _ _ _ _ _ _ _ _ _ _ _ _ _ _ c.replies.invariant.tells
    (rw c.in-Ok-true.field-0-test at c.in-Ok-true.ensures.reads) c.in_err-read_on.ensures.stops)

pub returns-in_err-tell-clause-stops : goal.returns-in_err-tell-clause-stops
returns-in_err-tell-clause-stops g c =
    let e = c.from_residual-in_err-tell in
    let p = err_from_is_err_and e.result e.ensures.1 in
    rw (p.1, p.2) (both_stops_reply _ _ _ _ _ _ _ _ _ _ _ _ _ _ _ _ _ _ c.replies.invariant.tells
    (rw c.in-Ok-true.field-0-test at c.in-Ok-true.ensures.reads) c.in_ok-read_on.ensures.tells
    c.in_err-tell.ensures.stops)

pub returns-in_err-tell_all-in-Ok-false-clause-stops : goal.returns-in_err-tell_all-in-Ok-false-clause-stops
returns-in_err-tell_all-in-Ok-false-clause-stops g c =
    let e = c.from_residual in
    let p = err_from_is_err_and e.result e.ensures.1 in
    rw (p.1, p.2) (both_stops_first _ _ _ _ _ _ _ _ _ _ _
    (both_second _ _ _ _ _ _ _ _ _ _ _ c.replies.invariant.tells
    (reads_ended _ _ _ _ _ _ _ (rw c.in-Ok-false.field-0-test at c.in-Ok-false.ensures.reads)))
    c.in_err-tell_all-in-Ok-false.ensures.stops)
