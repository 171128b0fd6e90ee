use Rattle.capture_records.proofs.Once.{told_begins_all, one_all}
use Rattle.capture_records.proofs.laws.told_records_begin_all.Goals as goal

pub returns-clause-begins : goal.returns-clause-begins
returns-clause-begins c = told_begins_all

pub returns-clause-one : goal.returns-clause-one
returns-clause-one c = one_all
