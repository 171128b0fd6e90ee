use Rattle.std.proofs.Common.{rules}
use Rattle.std.specs.Fmt.{digits}
use Rattle.json.specs.Print.{print_from, escape_byte}
use Rattle.example_json.proofs.writing.writes_a_hyper.Goals as goal

pub returns : goal.returns
unfolding digits print_from escape_byte
returns c = search rules
