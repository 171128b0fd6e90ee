use Rattle.std.proofs.Common.{rules}
use Rattle.registry_uaddr.proofs.Chain.{no_last}
use Rattle.registry_uaddr.proofs.from_text.read_numbers.Goals as goal

pub returns-in_err-low : goal.returns-in_err-low
returns-in_err-low c = search (rules, no_last)
