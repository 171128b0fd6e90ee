-- The answer to an input of no bytes.
use Rattle.std.proofs.Common.{arith, refl}
use Rattle.example_program.proofs.Empty.{ends_whole}
use Rattle.example_program.proofs.values.nothing_follows_an_empty_input.Goals as goal

pub returns : goal.returns
returns g c = λ zero. ends_whole _ _ _ _ _ _ _ _ refl c.new-input.ensures.left zero
    (c.show_over.ensures.printed (omega (arith, zero)))
