use Rattle.std.proofs.Common.{rules}
use Rattle.std.specs.Fmt.{digits}
use Rattle.example_registry.proofs.addresses.reads_the_port_by_octets.Goals as goal

pub returns : goal.returns
unfolding digits
returns c = search rules
