use Rattle.std.proofs.Common.{rules}
use Rattle.json.specs.Layout.{pretty_from}
use Rattle.example_json.proofs.writing.writes_an_empty_array.Goals as goal

pub returns : goal.returns
unfolding pretty_from
returns c = search rules
