-- Both sides compute to the same.
use Rattle.std.proofs.Common.{refl}
use Rattle.example_program.proofs.listed.listed_names_name_parts.Goals as goal

pub returns-clause-arguments : goal.returns-clause-arguments
returns-clause-arguments c = λ p v n k. refl

pub returns-clause-results : goal.returns-clause-results
returns-clause-results c = λ p v n. refl
