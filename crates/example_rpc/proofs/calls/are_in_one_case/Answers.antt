use Rattle.std.proofs.Common.{arith}
use Rattle.xdr_units.proofs.Bytes.{bytes_at}
use Rattle.example_rpc.proofs.calls.are_in_one_case.Goals as goal

pub returns-clause-some : goal.returns-clause-some
returns-clause-some c = c.five_cases.ensures.covering c.args.bytes.now
    (bytes_at c.args.bytes.now (λ i. omega (arith, c.type_inv.bytes i)))

pub returns-clause-one : goal.returns-clause-one
returns-clause-one c = λ j k x y.
    c.five_cases.ensures.exclusive c.args.bytes.now j k
    (bytes_at c.args.bytes.now (λ i. omega (arith, c.type_inv.bytes i))) x y
