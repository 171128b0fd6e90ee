-- What is found is named, and where nothing is found nothing is.
use Rattle.std.proofs.lemmas.Result.{err_from_is_err_and}
use Rattle.xdr_lang.specs.Views.{declared_of}
use Rattle.oncrpc_procedures.specs.Private.Search.{parts_of}
use Rattle.oncrpc_procedures.specs.View.{target_of}
use Rattle.oncrpc_procedures.proofs.First.{found_named, no_parts_named, none_named}
use Rattle.oncrpc_procedures.proofs.named.procedure_named.Goals as goal

pub returns-in_err-parts-clause-refused : goal.returns-in_err-parts-clause-refused
returns-in_err-parts-clause-refused c =
    let p = err_from_is_err_and c.from_residual.result c.from_residual.ensures.1 in
    rw (p.1, p.2) (no_parts_named c.args.text.now (declared_of c.args.declared.now).programs _
    c.in_err-parts.ensures.refused)

pub returns-in-Some-clause-found : goal.returns-in-Some-clause-found
returns-in-Some-clause-found c =
    found_named c.args.text.now (parts_of c.in_ok-parts.parts) (declared_of c.args.declared.now).programs
    (target_of c.in-Some.named) c.in_ok-parts.ensures.found.0 c.in_ok-parts.ensures.found.1
    (rw c.deref.ensures.value at c.in-Some.ensures)

pub returns-in-None-clause-refused : goal.returns-in-None-clause-refused
returns-in-None-clause-refused c =
    none_named c.args.text.now (parts_of c.in_ok-parts.parts) (declared_of c.args.declared.now).programs
    c.unnamed_in.result c.in_ok-parts.ensures.found.0 c.in_ok-parts.ensures.found.1
    (rw c.deref.ensures.value at c.in-None.ensures) (rw c.deref-in-None.ensures.value at c.unnamed_in.ensures)
