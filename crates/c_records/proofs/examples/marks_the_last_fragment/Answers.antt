use Rattle.std.proofs.Common.{true, false, arith}
use Rattle.rpc_record.specs.Marked.{header}
use Rattle.c_records.proofs.Headed.{headed}
use Rattle.c_records.proofs.examples.marks_the_last_fragment.Goals as goal

pub returns-clause-status : goal.returns-clause-status
returns-clause-status c = (
  (headed 3 true _ _ _ (omega arith) c.put_header-first.ensures).0,
  (headed 3 false _ _ _ (omega arith) c.put_header-second.ensures).0,
)

pub returns-clause-last : goal.returns-clause-last
unfolding header
returns-clause-last c = (headed 3 true _ _ _ (omega arith) c.put_header-first.ensures).1

pub returns-clause-other : goal.returns-clause-other
unfolding header
returns-clause-other c = (headed 3 false _ _ _ (omega arith) c.put_header-second.ensures).1
