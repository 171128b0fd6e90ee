use Rattle.std.proofs.Common.{refl}
use Rattle.registry_answer.proofs.dumps.mapping_words.Goals as goal

pub returns : goal.returns
returns c =
    rw c.to_be_bytes.ensures rw c.to_be_bytes-2.ensures rw c.to_be_bytes-3.ensures rw c.to_be_bytes-4.ensures refl
