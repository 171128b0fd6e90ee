use Rattle.capture_streams.proofs.Numbers.{bytes_stand_near, begins_once}
use Rattle.capture_streams.proofs.laws.places_by_number.Goals as goal

pub returns-clause-near : goal.returns-clause-near
returns-clause-near c = bytes_stand_near

pub returns-clause-once : goal.returns-clause-once
returns-clause-once c = begins_once
