use Rattle.std.proofs.Common.{arith}
use Rattle.example_sessions.proofs.owners.is_owned_by_the_superuser.Goals as goal

pub returns : goal.returns
returns c = λ call asked v. c.user_is_owner.ensures 0 call asked (omega arith) v
