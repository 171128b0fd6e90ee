-- What is shown is printed, and nothing behind it.
use Rattle.std.proofs.Common.{refl, sym}
use Rattle.example_program.proofs.Alone.{printed_alone, silent_where_whole}
use Rattle.example_program.proofs.values.json_stands_alone.Goals as goal

pub returns : goal.returns
returns g c = λ done.
    let w = c.answer_over.ensures.printed done in (
      w.answer,
      w.shown,
      printed_alone _ _ refl _ _ _ _ _ _ _ _ w,
      sym w.status,
      λ used is. silent_where_whole _ _ refl _ _ _ _ _ _ _ _ w used is,
    )
