use Rattle.std.proofs.Common.{ap}
use Rattle.oncrpc_service.specs.Listening.{Clients}
use Rattle.example_program.proofs.Serves.{none_served}
use Rattle.example_program.proofs.service.serves_no_connection.Goals as goal

pub returns-clause-rows : goal.returns-clause-rows
returns-clause-rows g c = let e = c.serve_on.ensures in (none_served _ _ _ _ _ e.outcomes e.few e.served).0

pub returns-clause-waiting : goal.returns-clause-waiting
returns-clause-waiting g c =
    let e = c.serve_on.ensures in
    ap (λ (k : Clients). k.waiting) (none_served _ _ _ _ _ e.outcomes e.few e.served).1
