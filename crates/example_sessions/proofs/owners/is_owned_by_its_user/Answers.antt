use Rattle.std.proofs.Common.{arith}
use Rattle.std.specs.Fmt.{digits}
use Rattle.example_sessions.proofs.owners.is_owned_by_its_user.Goals as goal

pub returns : goal.returns
unfolding digits
returns c = λ call asked v. c.user_is_owner.ensures 7 call asked (omega arith) v
