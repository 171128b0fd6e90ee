use Rattle.registry_uaddr.proofs.Chain.{some_read, none_read}
use Rattle.registry_uaddr.proofs.from_text.read_uaddr.Goals as goal

pub returns-clause-some : goal.returns-clause-some
returns-clause-some c = some_read _ c.args.text.now c.read_numbers.ensures

pub returns-clause-none : goal.returns-clause-none
returns-clause-none c = none_read _ c.args.text.now c.read_numbers.ensures
