use Rattle.std.proofs.Common.{◌++◌}
use Rattle.rpc_record.proofs.Readers.{TooLongAt-more, faults_begin}
use Rattle.rpc_record.proofs.Places.{Longest-long}
use Rattle.rpc_record.proofs.Exact.{whole_not_long, one_too_long}
use Rattle.rpc_record.proofs.laws.too_long_ends_the_stream.Goals as goal

pub returns-clause-ends : goal.returns-clause-ends
returns-clause-ends c limit at rs bytes more h =
    let t = TooLongAt-more limit at rs bytes more h in
    (t, Longest-long limit at rs (bytes ++ more) t)

pub returns-clause-one : goal.returns-clause-one
returns-clause-one c = one_too_long

pub returns-clause-none : goal.returns-clause-none
returns-clause-none c = whole_not_long

pub returns-clause-begins : goal.returns-clause-begins
returns-clause-begins c = faults_begin
