use Rattle.std.proofs.Common.{ap, ◌∙◌}
use Rattle.std.specs.Fmt.{digits}
use Rattle.registry_uaddr.specs.Uaddrs.{uaddr_of}
use Rattle.example_registry.proofs.addresses.reads_numbers_above_9.Goals as goal

pub returns : goal.returns
unfolding digits
returns c = c.read_uaddr.ensures.value ∙ ap uaddr_of c.requires
