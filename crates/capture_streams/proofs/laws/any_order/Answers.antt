use Rattle.capture_streams.proofs.Given.{orders, orders_handed}
use Rattle.capture_streams.proofs.laws.any_order.Goals as goal

pub returns-clause-given : goal.returns-clause-given
returns-clause-given c = orders

pub returns-clause-handed : goal.returns-clause-handed
returns-clause-handed c = orders_handed
