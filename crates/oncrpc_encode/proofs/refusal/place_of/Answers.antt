use Rattle.std.proofs.Common.{rules, append_assoc}
use Rattle.oncrpc_encode.proofs.refusal.place_of.Goals as goal

pub returns : goal.returns
returns c = search (rules, append_assoc)
