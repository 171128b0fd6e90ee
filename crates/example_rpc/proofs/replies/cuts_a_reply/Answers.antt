use Rattle.std.proofs.Common.{[], ◌∷◌, refl}
use Rattle.example_rpc.proofs.replies.cuts_a_reply.Goals as goal

pub returns : goal.returns
returns c = c.cut_to_system_error.ensures [] (9 ∷ []) 7 refl c.requires
