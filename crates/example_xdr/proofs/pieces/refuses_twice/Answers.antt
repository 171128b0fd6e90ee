use Rattle.std.proofs.Common.{rules}
use Rattle.example_xdr.proofs.pieces.refuses_twice.Goals as goal

pub returns-clause-failed : goal.returns-clause-failed
returns-clause-failed c =
    search (
      rules,
      c.feed.ensures.leaves.failed,
      c.feed-2.ensures.stays.for_ever,
      c.feed-2.ensures.leaves.failed,
      c.err.ensures,
      c.err-2.ensures,
      c.in_ok-fault,
      c.in_ok-again,
      c.branch-fault.ensures,
      c.branch-again.ensures,
    )

pub returns-clause-same : goal.returns-clause-same
returns-clause-same c =
    search (
      rules,
      c.feed.ensures.leaves.failed,
      c.feed-2.ensures.stays.for_ever,
      c.err.ensures,
      c.err-2.ensures,
      c.in_ok-fault,
      c.in_ok-again,
      c.branch-fault.ensures,
      c.branch-again.ensures,
      c.eq.ensures,
    )
