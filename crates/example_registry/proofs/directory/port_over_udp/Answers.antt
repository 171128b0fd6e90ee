use Rattle.std.proofs.Common.{rules}
use Rattle.std.specs.Fmt.{digits}
use Rattle.example_registry.proofs.directory.port_over_udp.Goals as goal

pub returns : goal.returns
unfolding digits
returns g c = search rules
