use Rattle.std.proofs.Common.{drop}
use Rattle.xdr_lang.specs.Declarations.{Declared}
use Rattle.example_language.proofs.Reporting.{reports, memory_of_text}
use Rattle.example_language.proofs.Meanings.{meanings}
use Rattle.example_language.proofs.texts.arrays.Goals as goal

pub returns-clause-found : goal.returns-clause-found
returns-clause-found c = reports _ _ (λ (d : Declared). drop 8 d.schema.kinds) c.read.result meanings.arrays
    c.read.ensures.found

pub returns-clause-taken : goal.returns-clause-taken
returns-clause-taken c = memory_of_text _ _ c.read.result meanings.arrays c.read.ensures.refused
