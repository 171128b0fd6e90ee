use Rattle.capture_streams.proofs.Delivering.{hands_on}
use Rattle.capture_streams.proofs.direction.Direction.hand_on.Goals as goal

pub returns-clause-hands : goal.returns-clause-hands
returns-clause-hands c =
    hands_on c.args.self.now c.pop_all.new.self c.args.out.now.items c.pop_all.new.out.items
    c.pop_all.ensures.same.first c.pop_all.ensures.pops
