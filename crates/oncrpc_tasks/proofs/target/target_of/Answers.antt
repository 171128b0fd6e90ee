-- A name that names no kind that is there asks nothing.
use Rattle.xdr_lang.specs.Views.{declared_of}
use Rattle.oncrpc_tasks.proofs.Questions.{nothing_asked, names_nothing, none_known, not_known, false_is}
use Rattle.oncrpc_tasks.proofs.target.target_of.Goals as goal
use Rattle.oncrpc_tasks.proofs.target.target_of.Goals.{in_default-via-in-Some+else-has, in_default-via-in_default}

pub returns-in_default-clause-none : goal.returns-in_default-clause-none
returns-in_default-clause-none g c =
    let only = rw c.deref.ensures at c.kind_named.ensures.only in
    elim c.in_default.branch [
      | in_default-via-in-Some+else-has w ↦ nothing_asked _ c.args.what.now
          (declared_of c.in_ok-declared.declared) c.kind_named.result c.in_ok-declared.ensures.declares only
          (not_known c.kind_named.result w.in-Some.kind _ w.in-Some.is
          (λ known. false_is w.has.result w.if-has.false (w.has.ensures.1 known)))
      | in_default-via-in_default w ↦ nothing_asked _ c.args.what.now
          (declared_of c.in_ok-declared.declared) c.kind_named.result c.in_ok-declared.ensures.declares only
          (none_known c.kind_named.result _ w.in_default.is)
    ]

pub returns-in_default-clause-reason : goal.returns-in_default-clause-reason
returns-in_default-clause-reason g c =
    let only = rw c.deref.ensures at c.kind_named.ensures.only in
    elim c.in_default.branch [
      | in_default-via-in-Some+else-has w ↦ names_nothing _ c.args.what.now
          (declared_of c.in_ok-declared.declared) c.kind_named.result c.in_ok-declared.ensures.declares only
          (not_known c.kind_named.result w.in-Some.kind _ w.in-Some.is
          (λ known. false_is w.has.result w.if-has.false (w.has.ensures.1 known)))
      | in_default-via-in_default w ↦ names_nothing _ c.args.what.now
          (declared_of c.in_ok-declared.declared) c.kind_named.result c.in_ok-declared.ensures.declares only
          (none_known c.kind_named.result _ w.in_default.is)
    ]
