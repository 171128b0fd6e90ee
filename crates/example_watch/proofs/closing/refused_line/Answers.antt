use Rattle.std.proofs.Common.{rules}
use Rattle.std.specs.Fmt.{digits}
use Rattle.example_watch.proofs.closing.refused_line.Goals as goal

pub returns : goal.returns
unfolding digits
returns c = search rules
