use Rattle.std.proofs.Common.{rules}
use Rattle.registry_uaddr.proofs.Chain.{first_is, first_is_none, no_second}
use Rattle.registry_uaddr.proofs.from_text.any_front.Goals as goal

pub returns-in_err-part-clause-none : goal.returns-in_err-part-clause-none
returns-in_err-part-clause-none c = search (rules, no_second)

pub returns-in_err-octet-clause-none : goal.returns-in_err-octet-clause-none
returns-in_err-octet-clause-none c = search (rules, first_is_none)

pub returns-clause-found : goal.returns-clause-found
returns-clause-found c = search (rules, first_is)
