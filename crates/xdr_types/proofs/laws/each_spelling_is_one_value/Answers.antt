use Rattle.xdr_types.proofs.Unique.{one, equal, apart}
use Rattle.xdr_types.proofs.laws.each_spelling_is_one_value.Goals as goal

pub returns-clause-one : goal.returns-clause-one
returns-clause-one c = λ kinds place t u x y h k e. one kinds place t u x y h k e

pub returns-clause-equal : goal.returns-clause-equal
returns-clause-equal c = λ kinds place t u h k. equal kinds place t u h k

pub returns-clause-apart : goal.returns-clause-apart
returns-clause-apart c = λ kinds place t u more h k e. apart kinds place t u more h k e
