use Rattle.rpc_record.specs.Marked.{header}
use Rattle.rpc_record.proofs.header.last_header.Goals as goal

pub returns-clause-spelled : goal.returns-clause-spelled
unfolding header
returns-clause-spelled c = c.write_u32.ensures
