use Rattle.capture_streams.proofs.Given.{cut_less, cut_begins}
use Rattle.capture_streams.proofs.laws.refused_gives_less.Goals as goal

pub returns-clause-less : goal.returns-clause-less
returns-clause-less c = cut_less

pub returns-clause-begins : goal.returns-clause-begins
returns-clause-begins c = cut_begins
