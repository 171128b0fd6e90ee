use Rattle.std.proofs.Common.{refl}
use Rattle.xdr_rpcgen.proofs.reading.read_cut.Goals as goal

pub returns-in-Ok-clause-found : goal.returns-in-Ok-clause-found
returns-in-Ok-clause-found c =
    rw (c.deref.ensures.value, c.in-Ok.ensures.tokens) at c.read_tokens.ensures.found

pub returns-in-Ok-clause-only : goal.returns-in-Ok-clause-only
returns-in-Ok-clause-only c = rw (c.deref.ensures.value, c.in-Ok.ensures.tokens) at c.read_tokens.ensures.only

pub returns-in-Ok-clause-refused : goal.returns-in-Ok-clause-refused
returns-in-Ok-clause-refused c =
    rw (c.deref.ensures.value, c.in-Ok.ensures.tokens) at c.read_tokens.ensures.refused

pub returns-in-Err-clause-refused : goal.returns-in-Err-clause-refused
returns-in-Err-clause-refused c = λ not d m. not (c.located.ensures.memory refl)
