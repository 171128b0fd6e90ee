use Rattle.xdr_show.proofs.Joined.{entries_of_seen}
use Rattle.xdr_show.proofs.laws.lines_are_of_the_layout.Goals as goal

pub returns : goal.returns
returns c = entries_of_seen
