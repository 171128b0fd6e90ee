use Rattle.std.proofs.Common.{ap, ◌∙◌, Some, inl, inr}
use Rattle.example_program.proofs.Serves.{all_written}
use Rattle.example_program.proofs.Answered.{one_silent}
use Rattle.example_program.proofs.service.says_that_there_is_no_reply.Goals as goal

pub returns : goal.returns
returns g c = λ zero.
    let e = c.datagrams_on.ensures in
    let all = all_written _ _ _ c.requires.fresh (e.lines zero) in
    elim (one_silent c.five_cases.ensures.exclusive _ _ _ _ e.ended c.requires.no_call (e.all zero) e.finished) [
      | inl is ↦ inl (all ∙ ap Some is)
      | inr is ↦ inr (all ∙ ap Some is)
    ]
