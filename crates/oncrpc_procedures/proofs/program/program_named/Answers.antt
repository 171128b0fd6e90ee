-- What is found is named, and where nothing is found nothing is.
use Rattle.xdr_lang.specs.Views.{declared_of}
use Rattle.oncrpc_procedures.proofs.Naming.{at_none, named_alone, named_both, no_program, no_version}
use Rattle.oncrpc_procedures.proofs.program.program_named.Goals as goal

pub returns-in_default-clause-refused : goal.returns-in_default-clause-refused
returns-in_default-clause-refused c =
    no_program c.args.text.now (declared_of c.args.declared.now).programs c.in_ok-parts.parts
    c.in_ok-parts.ensures.found.0 c.in_ok-parts.ensures.found.1
    (at_none _ c.program_meant.result c.in_default.is (rw c.deref.ensures.value at c.program_meant.ensures))

pub returns-in_default-version-clause-found : goal.returns-in_default-version-clause-found
returns-in_default-version-clause-found c =
    named_alone c.args.text.now (declared_of c.args.declared.now).programs c.in_ok-parts.parts
    c.in_ok-parts.ensures.found.0 c.in-Some.program (rw c.deref.ensures.value at c.in-Some.ensures)
    c.in_default-version.is

pub returns-in-Some-version_meant-clause-found : goal.returns-in-Some-version_meant-clause-found
returns-in-Some-version_meant-clause-found c =
    named_both c.args.text.now (declared_of c.args.declared.now).programs c.in_ok-parts.parts
    c.in_ok-parts.ensures.found.0 c.in-Some.program (rw c.deref.ensures.value at c.in-Some.ensures)
    c.in-Some-version.part c.in-Some-version_meant.version c.in-Some-version.is
    (rw c.deref-2.ensures.value at c.in-Some-version_meant.ensures)

pub returns-in-None-clause-refused : goal.returns-in-None-clause-refused
returns-in-None-clause-refused c =
    no_version c.args.text.now (declared_of c.args.declared.now).programs c.in_ok-parts.parts
    c.in_ok-parts.ensures.found.0 c.in-Some.program (rw c.deref.ensures.value at c.in-Some.ensures)
    c.in-Some-version.part c.in_ok-parts.ensures.found.1 c.in-Some-version.is
    (rw c.deref-2.ensures.value at c.in-None.ensures)
