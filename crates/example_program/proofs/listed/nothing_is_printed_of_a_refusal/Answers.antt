-- Both statuses say that the output is as it was.
use Rattle.std.proofs.Common.{inl, inr}
use Rattle.example_program.proofs.listed.nothing_is_printed_of_a_refusal.Goals as goal

pub returns-clause-refused : goal.returns-clause-refused
returns-clause-refused g c = λ status.
    elim status [
      | inl two ↦ (c.types_over.ensures.refused two).1
      | inr four ↦ c.types_over.ensures.wanting four
    ]

pub returns-clause-never : goal.returns-clause-never
returns-clause-never g c = c.types_over.ensures.asked
