use Rattle.std.proofs.Common.{refl, ◌∙◌}
use Rattle.xdr_lang.specs.Declarations.{procedure_numbered, procedure_of_version, procedure_of_program}
use Rattle.example_language.proofs.lookups.procedure_of_a_version.Goals as goal

pub returns : goal.returns
unfolding procedure_numbered procedure_of_version procedure_of_program
returns c = c.procedure.ensures ∙ rw c.requires refl
