use Rattle.registry_sessions.proofs.One.{one_order}
use Rattle.registry_sessions.proofs.laws.arrivals_have_one_order.Goals as goal

pub returns : goal.returns
returns c = one_order
