use Rattle.std.proofs.Common.{sym}
use Rattle.xdr_tokens.proofs.Options.{some_is}
use Rattle.xdr_lang.specs.Views.{declared_of}
use Rattle.xdr_lang.proofs.Refusing.{refused_is_not_due}
use Rattle.xdr_lang.proofs.of_tokens.read_tokens.Goals as goal

pub returns-in-Ok-clause-only : goal.returns-in-Ok-clause-only
returns-in-Ok-clause-only c = λ d m. sym (some_is d (declared_of c.in-Ok.declared) (c.in-Ok.ensures.only d m))

pub returns-in-Err-clause-refused : goal.returns-in-Err-clause-refused
returns-in-Err-clause-refused c =
    λ not d m. refused_is_not_due c.in-Err.fault c.lang_fault.result.number d c.lang_fault.ensures.memory not
    (c.in-Err.ensures.only d m)
