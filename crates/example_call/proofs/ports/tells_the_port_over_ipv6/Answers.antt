use Rattle.std.proofs.Common.{sym, subst, ℕ, List}
use Rattle.oncrpc_call.specs.Ports.{TellsPort}
use Rattle.oncrpc_call.specs.declared.transport.Transport.TheVariants as over
use Rattle.example_call.proofs.Addresses.{over_ipv6}
use Rattle.example_call.proofs.ports.tells_the_port_over_ipv6.Goals as goal

pub returns : goal.returns
returns c =
    c.told_port.ensures.only 2049
    (subst (λ (bytes : List ℕ). TellsPort 4 over.Tcp6 bytes 2049) (sym c.requires)
    (over_ipv6 c.new-host.result c.new-host.ensures))
