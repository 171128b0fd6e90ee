use Rattle.xdr_writer.proofs.Finding.{found, waits_indeed}
use Rattle.xdr_writer.proofs.taking.next_due.Goals as goal

pub returns-then-waits-clause-finds : goal.returns-then-waits-clause-finds
returns-then-waits-clause-finds c =
    found c.args.checker.now c.due.result
    (waits_indeed c.args.checker.now.reader.state (c.requires c.if-waits.true)) c.due.ensures.due c.due.ensures.some
