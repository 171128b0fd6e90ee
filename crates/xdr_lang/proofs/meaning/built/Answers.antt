use Rattle.xdr_lang.proofs.Refusing.{only_memory}
use Rattle.xdr_lang.proofs.meaning.built.Goals as goal

pub returns-in-Err-clause-only : goal.returns-in-Err-clause-only
returns-in-Err-clause-only c = λ wf so. rw (c.schema_fault.ensures (only_memory _ _ wf so c.in-Err.ensures)) tt
