use Rattle.std.proofs.Common.{rules}
use Rattle.json.specs.Print.{print_from}
use Rattle.example_json.proofs.writing.writes_an_optional_of_an_optional.Goals as goal

pub returns : goal.returns
unfolding print_from
returns c = search rules
