use Rattle.rpc_record.proofs.Counting.{normal-append, length-fragment_of}
use Rattle.rpc_record.proofs.laws.normal_forms_join.Goals as goal

pub returns-clause-joins : goal.returns-clause-joins
returns-clause-joins c = normal-append

pub returns-clause-length : goal.returns-clause-length
returns-clause-length c = length-fragment_of
