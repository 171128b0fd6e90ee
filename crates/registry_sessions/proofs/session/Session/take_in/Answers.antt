use Rattle.std.proofs.Common.{refl, arith, ap, drop}
use Rattle.registry_sessions.proofs.Steps.{takes_record, breaks_flawed, breaks_refused}
use Rattle.registry_sessions.proofs.session.Session.take_in.Goals as goal

pub returns-in-Ok-clause-taken : goal.returns-in-Ok-clause-taken
returns-in-Ok-clause-taken g c =
    let feeds = rw c.in-Ok-Whole.field-0-is at c.in-Ok-Whole.ensures.feeds in
    takes_record c.args.self.now _ c.feed.new.self c.args.directory.now c.answer_next.new.directory c.args.piece.now
    c.in-Ok-Whole.used c.in-Ok-Whole.ensures.limit
    feeds refl refl (omega (arith, c.args.self.now.half, c.args.self.now.output.ok.0))
    c.in-Ok.ensures.ok

pub returns-in-Err-answer_next-clause-fault : goal.returns-in-Err-answer_next-clause-fault
returns-in-Err-answer_next-clause-fault g c =
    let feeds = rw c.in-Ok-Whole.field-0-is at c.in-Ok-Whole.ensures.feeds in
    let reports = rw c.in-Ok-Whole.field-0-is at c.in-Ok-Whole.ensures.reports in
    breaks_refused c.args.self.now _ c.feed.new.self c.args.directory.now c.answer_next.new.directory c.args.piece.now
    c.in-Ok-Whole.used feeds reports c.in-Err-answer_next.ensures.rows refl
    (ap (drop c.args.self.now.sent) c.in-Err-answer_next.ensures.bytes)

pub returns-in-Err-clause-fault : goal.returns-in-Err-clause-fault
returns-in-Err-clause-fault g c =
    rw c.record_fault-fault.ensures
    (breaks_flawed c.too_long_ends_the_stream.ensures.ends c.args.self.now _ c.feed.new.self c.args.directory.now
    c.args.piece.now c.in-Err.fault refl refl c.in-Err.ensures.feeds c.in-Err.ensures.reports)
