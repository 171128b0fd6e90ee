use Rattle.std.proofs.lemmas.Result.{err_from_is_err_and}
use Rattle.oncrpc_watch.proofs.Stopped.{on_read, on_refused}
use Rattle.oncrpc_watch.proofs.Streamed.{reads_already, reads_end, reads_record, reads_refused}
use Rattle.oncrpc_watch.proofs.stream.Stream.next.Goals as goal

pub returns-then-self-clause-reads : goal.returns-then-self-clause-reads
returns-then-self-clause-reads g c = reads_already _ _ _ _ c.if-self.true

pub returns-in_err-read-clause-stops : goal.returns-in_err-read-clause-stops
returns-in_err-read-clause-stops g c =
    let e = c.from_residual in
    let p = err_from_is_err_and e.result e.ensures.1 in
    rw (p.1, p.2) (on_read _ _ _ _ _ c.in_err-read.ensures.fails)

pub returns-in-Record-clause-reads : goal.returns-in-Record-clause-reads
returns-in-Record-clause-reads g c = reads_record _ _ _ _ _ (rw c.in-Record.is at c.in_ok-read.ensures.on)

pub returns-in-End-clause-reads : goal.returns-in-End-clause-reads
returns-in-End-clause-reads g c = reads_end _ _ _ _ _ (rw c.in-End.is at c.in_ok-read.ensures.on)
    (rw c.in-End.is at c.in_ok-read.ensures.ended)

pub returns-in_ok-refuse-in-Refused-clause-reads : goal.returns-in_ok-refuse-in-Refused-clause-reads
returns-in_ok-refuse-in-Refused-clause-reads g c = reads_refused _ _ _ _ _ _ _ _
    (rw c.in-Refused.is at c.in_ok-read.ensures.on) (rw c.in-Refused.is at c.in_ok-read.ensures.ended)
    c.in_ok-refuse-in-Refused.ensures.prints

pub returns-in_err-refuse-in-Refused-clause-stops : goal.returns-in_err-refuse-in-Refused-clause-stops
returns-in_err-refuse-in-Refused-clause-stops g c =
    let e = c.from_residual-in_err-refuse-in-Refused in
    let p = err_from_is_err_and e.result e.ensures.1 in
    rw (p.1, p.2) (on_refused _ _ _ _ _ _ _ (rw c.in-Refused.is at c.in_ok-read.ensures.on)
    c.in_err-refuse-in-Refused.ensures.stops)
