use Rattle.std.proofs.Common.{rules}
use Rattle.std.specs.Fmt.{digits}
use Rattle.hex.specs.Hex.{encode_with}
use Rattle.example_xdr.proofs.lines.shows_the_file.Goals as goal

pub returns : goal.returns
unfolding digits encode_with
returns c = search rules
