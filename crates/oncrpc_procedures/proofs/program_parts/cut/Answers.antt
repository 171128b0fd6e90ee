-- The text at its dot.
use Rattle.oncrpc_procedures.proofs.ProgramCuts.{behind_dot}
use Rattle.oncrpc_procedures.proofs.program_parts.cut.Goals as goal

pub returns-in-Some : goal.returns-in-Some
returns-in-Some c =
    behind_dot c.args.text.now c.in-Some.program.now c.in-Some.version.now c.in-Some.ensures.0 c.in-Some.ensures.1
    c.cut_behind.result c.cut_behind.ensures
