use Rattle.std.proofs.Common.{rules}
use Rattle.std.specs.Fmt.{digits}
use Rattle.json.specs.Print.{print_from}
use Rattle.example_json.proofs.writing.writes_an_int.Goals as goal

pub returns : goal.returns
unfolding digits print_from
returns c = search rules
