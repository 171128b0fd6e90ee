-- Of a refusal nothing is shown.
use Rattle.std.proofs.Common.{refl, arith}
use Rattle.example_program.proofs.Alone.{nothing_of_refused}
use Rattle.example_program.proofs.values.no_json_of_a_refused_value.Goals as goal

pub returns : goal.returns
returns g c = λ one.
    nothing_of_refused _ _ refl _ _ _ _ _ _ _ _ c.new-input.ensures.left one
    (c.answer_over.ensures.printed (omega (arith, one)))
