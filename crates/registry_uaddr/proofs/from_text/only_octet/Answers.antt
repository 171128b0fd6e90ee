use Rattle.std.proofs.Common.{rules}
use Rattle.registry_uaddr.proofs.Chain.{not_only, only_is, only_is_none}
use Rattle.registry_uaddr.proofs.from_text.only_octet.Goals as goal

pub returns-in-Some-clause-none : goal.returns-in-Some-clause-none
returns-in-Some-clause-none c = search (rules, not_only)

pub returns-in-None-clause-found : goal.returns-in-None-clause-found
returns-in-None-clause-found c = search (rules, only_is)

pub returns-in-None-clause-none : goal.returns-in-None-clause-none
returns-in-None-clause-none c = search (rules, only_is_none)
