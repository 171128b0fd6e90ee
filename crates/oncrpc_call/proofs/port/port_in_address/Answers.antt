use Rattle.std.proofs.Common.{rules}
use Rattle.oncrpc_call.proofs.Ports.{address_told, no_count, no_text, text_only}
use Rattle.oncrpc_call.proofs.port.port_in_address.Goals as goal

pub returns-in_err-count-clause-only : goal.returns-in_err-count-clause-only
returns-in_err-count-clause-only c = search (rules, no_count)

pub returns-in-Ok-clause-told : goal.returns-in-Ok-clause-told
returns-in-Ok-clause-told c = search (rules, address_told)

pub returns-in-Ok-clause-only : goal.returns-in-Ok-clause-only
returns-in-Ok-clause-only c = search (rules, text_only)

pub returns-in-Err-clause-only : goal.returns-in-Err-clause-only
returns-in-Err-clause-only c = search (rules, no_text)
