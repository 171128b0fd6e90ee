use Rattle.oncrpc_messages.proofs.Encoded.{encoded}
use Rattle.oncrpc_messages.proofs.laws.canonical_is_encoded.Goals as goal

pub returns : goal.returns
returns c = encoded
