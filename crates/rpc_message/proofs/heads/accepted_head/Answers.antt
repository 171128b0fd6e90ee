use Rattle.std.proofs.Common.{refl}
use Rattle.rpc_message.proofs.heads.accepted_head.Goals as goal

pub returns : goal.returns
returns c = rw c.to_be_bytes.ensures rw c.to_be_bytes-2.ensures refl
