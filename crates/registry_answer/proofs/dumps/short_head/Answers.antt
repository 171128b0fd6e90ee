use Rattle.std.proofs.Common.{refl}
use Rattle.registry_answer.proofs.dumps.short_head.Goals as goal

pub returns : goal.returns
returns c = rw c.to_be_bytes.ensures rw c.to_be_bytes-2.ensures rw c.to_be_bytes-3.ensures refl
