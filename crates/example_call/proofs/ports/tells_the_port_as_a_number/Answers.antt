use Rattle.std.proofs.Common.{sym, subst, ℕ, List}
use Rattle.oncrpc_call.specs.Ports.{TellsPort}
use Rattle.oncrpc_call.specs.declared.transport.Transport.TheVariants as over
use Rattle.example_call.proofs.Addresses.{as_a_number}
use Rattle.example_call.proofs.ports.tells_the_port_as_a_number.Goals as goal

pub returns : goal.returns
returns c =
    c.told_port.ensures.only 2049
    (subst (λ (bytes : List ℕ). TellsPort 2 over.Udp bytes 2049) (sym c.requires) as_a_number)
