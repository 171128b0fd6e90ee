use Rattle.std.proofs.Common.{refl}
use Rattle.std.specs.Fmt.{digits}
use Rattle.example_sessions.proofs.addresses.tells_the_called_host.Goals as goal

pub returns-clause-anywhere : goal.returns-clause-anywhere
unfolding digits
returns-clause-anywhere c = refl

pub returns-clause-elsewhere : goal.returns-clause-elsewhere
unfolding digits
returns-clause-elsewhere c = refl

pub returns-clause-other : goal.returns-clause-other
unfolding digits
returns-clause-other c = refl
