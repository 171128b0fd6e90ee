use Rattle.capture_streams.proofs.Given.{one_run, front_begins}
use Rattle.capture_streams.proofs.laws.one_stream.Goals as goal

pub returns-clause-one : goal.returns-clause-one
returns-clause-one c = one_run

pub returns-clause-begins : goal.returns-clause-begins
returns-clause-begins c = front_begins
