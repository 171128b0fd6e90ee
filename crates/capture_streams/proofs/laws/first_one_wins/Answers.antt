use Rattle.capture_streams.proofs.Given.{first_wins, bytes_stay}
use Rattle.capture_streams.proofs.laws.first_one_wins.Goals as goal

pub returns-clause-first : goal.returns-clause-first
returns-clause-first c = first_wins

pub returns-clause-stays : goal.returns-clause-stays
returns-clause-stays c = bytes_stay
