use Rattle.std.proofs.Common.{rules}
use Rattle.std.specs.Fmt.{digits}
use Rattle.example_xdr.proofs.lines.shows_an_empty_array.Goals as goal

pub returns : goal.returns
unfolding digits
returns c = search rules
