use Rattle.std.proofs.Common.{ap, ◌∙◌, Some}
use Rattle.example_program.proofs.Serves.{all_written}
use Rattle.example_program.proofs.Answered.{one_unreceived}
use Rattle.example_program.proofs.service.uses_up_one_for_a_failed_receive.Goals as goal

pub returns : goal.returns
returns g c = λ zero.
    let e = c.datagrams_on.ensures in
    all_written _ _ _ c.requires.fresh (e.lines zero)
    ∙ ap Some (one_unreceived _ _ _ _ e.ended c.requires.none_left (e.all zero) e.finished)
