-- What was read of the files is what their texts declare.
use Rattle.oncrpc_tasks.proofs.Reported.{declares_by, refuses_by}
use Rattle.oncrpc_tasks.proofs.declaring.declared.Goals as goal

pub returns-clause-declares : goal.returns-clause-declares
returns-clause-declares g c =
    let read = rw c.deref.ensures.value at c.in_ok-texts.ensures.read in
    declares_by _ c.args.types.now _ read c.declared_by.result
    (rw c.deref-2.ensures.value at c.declared_by.ensures.found)
    (rw c.deref-2.ensures.value at c.declared_by.ensures.only)

pub returns-clause-refused : goal.returns-clause-refused
returns-clause-refused g c =
    let read = rw c.deref.ensures.value at c.in_ok-texts.ensures.read in
    refuses_by _ c.args.types.now _ read c.declared_by.result
    (rw c.deref-2.ensures.value at c.declared_by.ensures.refused)
