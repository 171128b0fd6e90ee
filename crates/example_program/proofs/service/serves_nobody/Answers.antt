use Rattle.std.proofs.Common.{arith}
use Rattle.example_program.proofs.Serves.{nobody_served}
use Rattle.example_program.proofs.service.serves_nobody.Goals as goal

pub returns-clause-status : goal.returns-clause-status
returns-clause-status g c = λ zero.
    let e = c.serve_on.ensures in
    let none = (nobody_served _ _ _ _ _ e.outcomes e.served c.requires.nobody).0 in
    let all = e.all zero in
    let some = c.requires.some in
    omega (arith, none, all, some)

pub returns-clause-rows : goal.returns-clause-rows
returns-clause-rows g c =
    let e = c.serve_on.ensures in (nobody_served _ _ _ _ _ e.outcomes e.served c.requires.nobody).1
