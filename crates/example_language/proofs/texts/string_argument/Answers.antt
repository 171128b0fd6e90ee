use Rattle.std.proofs.Common.{map}
use Rattle.xdr_lang.specs.Declarations.{Declared, Program}
use Rattle.example_language.proofs.Reporting.{reports, memory_of_text}
use Rattle.example_language.proofs.Meanings.{meanings}
use Rattle.example_language.proofs.texts.string_argument.Goals as goal

pub returns-clause-found : goal.returns-clause-found
returns-clause-found c =
    reports _ _ (λ (d : Declared). map (λ (p : Program). p.versions) d.programs) c.read.result meanings.string_argument
    c.read.ensures.found

pub returns-clause-taken : goal.returns-clause-taken
returns-clause-taken c = memory_of_text _ _ c.read.result meanings.string_argument c.read.ensures.refused
