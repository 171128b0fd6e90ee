use Rattle.std.proofs.Common.{rules}
use Rattle.oncrpc_call.proofs.Ports.{no_number_told, number_large, number_only}
use Rattle.oncrpc_call.proofs.port.port_in_number.Goals as goal

pub returns-in_err-port-clause-only : goal.returns-in_err-port-clause-only
returns-in_err-port-clause-only c = search (rules, no_number_told)

pub returns-then-port-lt65536-clause-only : goal.returns-then-port-lt65536-clause-only
returns-then-port-lt65536-clause-only c = search (rules, number_only)

pub returns-else-port-lt65536-clause-only : goal.returns-else-port-lt65536-clause-only
returns-else-port-lt65536-clause-only c = search (rules, number_large)
