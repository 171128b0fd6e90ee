use Rattle.std.proofs.lemmas.Result.{IfOk-weaker, MatchResult-weaker}
use Rattle.xdr_tokens.specs.Tokens.{lexemes}
use Rattle.xdr_rpcgen.proofs.Meaning.{nothing_due, of_cut}
use Rattle.xdr_rpcgen.proofs.reading.read_plain.Goals as goal

pub returns-in-Ok-clause-found : goal.returns-in-Ok-clause-found
returns-in-Ok-clause-found c =
    let made = rw c.deref.ensures.value at c.read_cut.ensures.found in
    IfOk-weaker c.read_cut.result _ _
    (λ v m. record { tokens = lexemes c.in-Ok.cut.items; cut = c.in-Ok.ensures.found; means = m }) made

pub returns-in-Ok-clause-only : goal.returns-in-Ok-clause-only
returns-in-Ok-clause-only c = λ d m.
    let only = rw c.deref.ensures.value at c.read_cut.ensures.only in
    only d (of_cut c.args.plain.now (lexemes c.in-Ok.cut.items) d c.in-Ok.ensures.only m)

pub returns-in-Ok-clause-refused : goal.returns-in-Ok-clause-refused
returns-in-Ok-clause-refused c =
    let refused = rw c.deref.ensures.value at c.read_cut.ensures.refused in
    MatchResult-weaker c.read_cut.result refused (λ v u. u)
    (λ e h not d m. h not d (of_cut c.args.plain.now (lexemes c.in-Ok.cut.items) d c.in-Ok.ensures.only m))

pub returns-in-Err-clause-refused : goal.returns-in-Err-clause-refused
returns-in-Err-clause-refused c = λ not d m.
    nothing_due c.in-Err.fault c.located.result.number m.tokens c.located.ensures.memory not
    (c.in-Err.ensures.only m.tokens m.cut)
