use Rattle.std.proofs.Common.{rules}
use Rattle.std.specs.Fmt.{digits}
use Rattle.example_xdr.proofs.lines.shows_a_number.Goals as goal

pub returns : goal.returns
unfolding digits
returns c = search rules
