use Rattle.capture_records.proofs.Reading.{side_handed}
use Rattle.std.proofs.Common.{refl}
use Rattle.capture_records.proofs.side.Side.hand_on.Goals as goal

pub returns-in_ok-hand_on-in-Some-clause-keeps : goal.returns-in_ok-hand_on-in-Some-clause-keeps
returns-in_ok-hand_on-in-Some-clause-keeps c =
    side_handed c.args.self.now _ c.in-Some.direction c.hand_on.new.self c.in-Some.is refl refl refl c.requires
    c.requires c.hand_on.ensures.hands
