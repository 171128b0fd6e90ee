use Rattle.capture_streams.specs.Taking.{taken_part}
use Rattle.capture_streams.proofs.Delivering.{takes_nothing, takes_ahead, takes_behind}
use Rattle.capture_streams.proofs.Wanting.{if_ahead, if_behind}
use Rattle.capture_streams.proofs.direction.Direction.take.Goals as goal

pub returns-then-self-gt-MOST_PLACE-clause-takes : goal.returns-then-self-gt-MOST_PLACE-clause-takes
returns-then-self-gt-MOST_PLACE-clause-takes c = takes_nothing c.args.self.now c.args.sequence c.args.out.now.items

pub returns-in-Ahead-clause-takes : goal.returns-in-Ahead-clause-takes
returns-in-Ahead-clause-takes c =
    takes_ahead c.args.self.now c.take_ahead.new.self c.args.sequence c.in-Ahead.distance
    (taken_part c.take_ahead.result c.args.bytes.now) c.args.out.now.items c.take_ahead.new.out.items
    c.take_ahead.ensures.same.first c.in-Ahead.ensures.1 c.take_ahead.ensures.steps

pub returns-in-Behind-clause-takes : goal.returns-in-Behind-clause-takes
returns-in-Behind-clause-takes c =
    takes_behind c.args.self.now c.take_behind.new.self c.args.sequence c.in-Behind.distance
    (taken_part c.take_behind.result c.args.bytes.now) c.args.out.now.items c.take_behind.new.out.items
    c.take_behind.ensures.same.first c.in-Behind.ensures c.take_behind.ensures.steps

pub returns-in-Ahead-clause-refused : goal.returns-in-Ahead-clause-refused
returns-in-Ahead-clause-refused c =
    if_ahead c.args.self.now c.take_ahead.new.self c.args.sequence c.in-Ahead.distance c.args.bytes.now
    c.take_ahead.result c.in-Ahead.ensures.0 c.in-Ahead.ensures.1 c.take_ahead.ensures.refused

pub returns-in-Behind-clause-refused : goal.returns-in-Behind-clause-refused
returns-in-Behind-clause-refused c =
    if_behind c.args.self.now c.take_behind.new.self c.args.sequence c.in-Behind.distance c.args.bytes.now
    c.take_behind.result c.in-Behind.ensures c.take_behind.ensures.refused
