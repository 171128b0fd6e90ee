use Rattle.std.proofs.Common.{◌≤◌, length, arith}
use Rattle.std.proofs.lemmas.Result.{IfOk-weaker, MatchResult-weaker}
use Rattle.xdr_dialect.specs.Answers.{texts}
use Rattle.xdr_rpcgen.proofs.Meaning.{no_plain, of_plain}
use Rattle.xdr_rpcgen.proofs.reading.read_dialect.Goals as goal

pub returns-in-Ok-clause-found : goal.returns-in-Ok-clause-found
returns-in-Ok-clause-found c =
    let made = rw c.deref.ensures.value at c.read_plain.ensures.found in
    let short : length c.args.text.now ≤ 262144 = omega arith in
    IfOk-weaker c.read_plain.result _ _
    (λ v m. record { short = short; plain = c.in-Ok.plain.items; without = c.in-Ok.ensures; means = m }) made

pub returns-in-Ok-clause-only : goal.returns-in-Ok-clause-only
returns-in-Ok-clause-only c = λ d m.
    let only = rw c.deref.ensures.value at c.read_plain.ensures.only in
    only d (of_plain (texts c.args.names.now) c.args.text.now c.in-Ok.plain.items d c.in-Ok.ensures m)

pub returns-in-Ok-clause-refused : goal.returns-in-Ok-clause-refused
returns-in-Ok-clause-refused c =
    let refused = rw c.deref.ensures.value at c.read_plain.ensures.refused in
    MatchResult-weaker c.read_plain.result refused (λ v u. u)
    (λ e h not d m. h not d (of_plain (texts c.args.names.now) c.args.text.now c.in-Ok.plain.items d c.in-Ok.ensures m))

pub returns-in-Err-clause-refused : goal.returns-in-Err-clause-refused
returns-in-Err-clause-refused c = λ not d m.
    no_plain c.in-Err.fault c.located-in-Err.result.number _ m.plain c.located-in-Err.ensures.memory not
    c.in-Err.ensures m.without
