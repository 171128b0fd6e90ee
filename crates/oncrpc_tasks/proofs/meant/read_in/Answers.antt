-- Each language has its own reading.
use Rattle.std.proofs.lemmas.Result.{err_from_is_err_and}
use Rattle.oncrpc_tasks.proofs.Meaning.{rfc_means, means_rfc, none_rfc, dialect_means, means_dialect, none_dialect}
use Rattle.oncrpc_tasks.proofs.meant.read_in.Goals as goal

pub returns-in_ok-declared-in-Rfc-clause-found : goal.returns-in_ok-declared-in-Rfc-clause-found
returns-in_ok-declared-in-Rfc-clause-found c =
    rfc_means c.args.dialect.now c.args.text.now c.in-Rfc.is _ c.in_ok-declared-in-Rfc.ensures.found

pub returns-in_ok-declared-in-Rfc-clause-only : goal.returns-in_ok-declared-in-Rfc-clause-only
returns-in_ok-declared-in-Rfc-clause-only c = λ d m.
    c.in_ok-declared-in-Rfc.ensures.only d (means_rfc c.args.dialect.now c.args.text.now c.in-Rfc.is d m)

pub returns-in_err-declared-in-Rfc-clause-refused : goal.returns-in_err-declared-in-Rfc-clause-refused
returns-in_err-declared-in-Rfc-clause-refused c =
    let p = err_from_is_err_and c.from_residual.result c.from_residual.ensures.1 in
    rw p.1 (none_rfc c.args.dialect.now c.args.text.now c.in-Rfc.is c.in_err-declared-in-Rfc.field-0.0 p.0 p.2
    c.in_err-declared-in-Rfc.ensures.refused)

pub returns-in_ok-declared-in-Rpcgen-clause-found : goal.returns-in_ok-declared-in-Rpcgen-clause-found
returns-in_ok-declared-in-Rpcgen-clause-found c =
    dialect_means c.args.dialect.now c.args.text.now c.in-Rpcgen.names c.in-Rpcgen.is _
    (rw (c.deref-in-Rpcgen.ensures.value, c.in_ok-parts-in-Rpcgen.ensures, c.deref.ensures.value)
    at c.in_ok-declared-in-Rpcgen.ensures.found)

pub returns-in_ok-declared-in-Rpcgen-clause-only : goal.returns-in_ok-declared-in-Rpcgen-clause-only
returns-in_ok-declared-in-Rpcgen-clause-only c = λ d m.
    let only = rw (c.deref-in-Rpcgen.ensures.value, c.in_ok-parts-in-Rpcgen.ensures, c.deref.ensures.value)
    at c.in_ok-declared-in-Rpcgen.ensures.only in
    only d (means_dialect c.args.dialect.now c.args.text.now c.in-Rpcgen.names c.in-Rpcgen.is d m)

pub returns-in_err-declared-in-Rpcgen-clause-refused : goal.returns-in_err-declared-in-Rpcgen-clause-refused
returns-in_err-declared-in-Rpcgen-clause-refused c =
    let q = c.from_residual-in_err-declared-in-Rpcgen in
    let p = err_from_is_err_and q.result q.ensures.1 in
    let refused = rw (c.deref-in-Rpcgen.ensures.value, c.in_ok-parts-in-Rpcgen.ensures, c.deref.ensures.value)
    at c.in_err-declared-in-Rpcgen.ensures.refused in
    rw p.1 (none_dialect c.args.dialect.now c.args.text.now c.in-Rpcgen.names c.in-Rpcgen.is
    c.in_err-declared-in-Rpcgen.field-0.0 p.0 p.2 refused)
