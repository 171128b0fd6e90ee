use Rattle.rpc_record.specs.Marked.{header}
use Rattle.c_records.proofs.header.header_of.Goals as goal

pub returns-else-is_last : goal.returns-else-is_last
unfolding header
returns-else-is_last c = rw c.if-is_last.false c.to_be_bytes.ensures
