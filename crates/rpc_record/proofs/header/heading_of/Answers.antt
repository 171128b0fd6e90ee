use Rattle.rpc_record.proofs.Headers.{header-first, header-last}
use Rattle.rpc_record.proofs.header.heading_of.Goals as goal

pub returns-then-number-lt-LAST-clause-spelled : goal.returns-then-number-lt-LAST-clause-spelled
returns-then-number-lt-LAST-clause-spelled c =
    header-first _ _ _ _ _ c.ranges.a.fits c.ranges.b.fits c.ranges.c.fits c.ranges.d.fits
    c.from_be_bytes-number.ensures

pub returns-else-number-lt-LAST-clause-spelled : goal.returns-else-number-lt-LAST-clause-spelled
returns-else-number-lt-LAST-clause-spelled c =
    header-last _ _ _ _ _ c.ranges.a.fits c.ranges.b.fits c.ranges.c.fits c.ranges.d.fits c.from_be_bytes-number.ensures
    c.if-number-lt-LAST.false
