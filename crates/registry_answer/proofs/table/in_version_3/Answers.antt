use Rattle.std.proofs.Common.{arith}
use Rattle.registry_answer.specs.Procedures.{null, set_3, unset_3, getaddr_3, dump_3}
use Rattle.registry_answer.proofs.Entries.{none_past_5}
use Rattle.registry_answer.proofs.table.in_version_3.Goals as goal

pub returns-in_default : goal.returns-in_default
returns-in_default c = none_past_5 null set_3 unset_3 getaddr_3 dump_3 c.args.proc (omega arith)
