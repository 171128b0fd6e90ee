use Rattle.std.proofs.Common.{rules}
use Rattle.oncrpc_call.proofs.Ports.{address6, no_high, no_host, no_low, port_only}
use Rattle.oncrpc_call.proofs.uaddr6.port_over_6.Goals as goal

pub returns-in_err-front-clause-only : goal.returns-in_err-front-clause-only
returns-in_err-front-clause-only c = search (rules, no_low)

pub returns-in_err-host-clause-only : goal.returns-in_err-host-clause-only
returns-in_err-host-clause-only c = search (rules, no_high)

pub returns-in-Ok-clause-told : goal.returns-in-Ok-clause-told
returns-in-Ok-clause-told c = search (rules, address6)

pub returns-in-Ok-clause-only : goal.returns-in-Ok-clause-only
returns-in-Ok-clause-only c = search (rules, port_only)

pub returns-in-Err-clause-only : goal.returns-in-Err-clause-only
returns-in-Err-clause-only c =
    no_host c.args.text.now c.in_ok-front.front.now c.in_ok-host.host.now c.in_ok-host.high c.in_ok-front.low
    c.in_ok-front.ensures.only c.in_ok-host.ensures.only c.in-Err.ensures
