use Rattle.std.proofs.Common.{ap, ◌∙◌, Some}
use Rattle.example_program.proofs.Serves.{all_written, listening}
use Rattle.example_program.proofs.service.says_where_it_listens.Goals as goal

pub returns : goal.returns
returns g c = λ zero.
    let e = c.serve_on.ensures in
    all_written _ _ _ c.requires.fresh (e.lines zero) ∙ ap Some (listening _ e.outcomes e.few c.requires.port)
