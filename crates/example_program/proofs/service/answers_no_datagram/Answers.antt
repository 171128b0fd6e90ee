use Rattle.std.proofs.Common.{ap, ◌∙◌, Some}
use Rattle.oncrpc_service.specs.Datagrams.{Reporting}
use Rattle.example_program.proofs.Serves.{all_written}
use Rattle.example_program.proofs.Answered.{none_answered, no_lines}
use Rattle.example_program.proofs.service.answers_no_datagram.Goals as goal

pub returns-clause-rows : goal.returns-clause-rows
returns-clause-rows g c = let e = c.datagrams_on.ensures in (none_answered _ _ _ _ e.ended e.few e.finished).0

pub returns-clause-left : goal.returns-clause-left
returns-clause-left g c =
    let e = c.datagrams_on.ensures in
    ap (λ (t : Reporting). t.left) (none_answered _ _ _ _ e.ended e.few e.finished).1

pub returns-clause-printed : goal.returns-clause-printed
returns-clause-printed g c = λ zero.
    let e = c.datagrams_on.ensures in
    all_written _ _ _ c.requires.fresh (e.lines zero) ∙ ap Some (no_lines e.ended e.few)
