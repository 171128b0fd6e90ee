use Rattle.std.proofs.lemmas.Bool.{ltb_from_iff}
use Rattle.oncrpc_encode.proofs.arguments.is_known.Goals as goal

pub returns : goal.returns
returns c = ltb_from_iff c.has.ensures
