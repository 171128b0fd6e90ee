use Rattle.example_program.proofs.Silent.{silent_client}
use Rattle.example_program.proofs.service.sends_nothing_to_a_silent_client.Goals as goal

pub returns : goal.returns
returns g c = λ zero.
    let e = c.serve_on.ensures in
    let sent = silent_client _ _ _ _ _ e.outcomes (e.all zero) e.served c.requires.silent c.requires.first in
    sent
