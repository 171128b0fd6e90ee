use Rattle.std.proofs.Common.{rules}
use Rattle.std.specs.Fmt.{digits}
use Rattle.example_registry.proofs.directory.finds_what_was_set.Goals as goal

pub returns : goal.returns
unfolding digits
returns g c = search rules
