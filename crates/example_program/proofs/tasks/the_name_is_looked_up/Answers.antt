-- Without a file the basic kinds are declared.
use Rattle.std.proofs.Common.{subst}
use Rattle.std.specs.Prelude.{string_bytes}
use Rattle.xdr_lang.specs.Declarations.{Declared}
use Rattle.oncrpc_kinds.specs.Naming.{Names}
use Rattle.example_program.proofs.Endings.{looked_for}
use Rattle.example_program.proofs.Sourced.{no_file}
use Rattle.example_program.proofs.tasks.the_name_is_looked_up.Goals as goal

pub returns : goal.returns
returns g c = λ done.
    let h = looked_for _ _ _ _ _ _ _ _ _ _ _ _ _ c.task_over.ensures.ends done in (
      h.question.place,
      subst (λ (d : Declared). Names (string_bytes c.args.what.name) d h.question.place)
          (no_file (g.P.Opener.reported c.args.opener.now) _ _ _ _ c.requires h.are_reported h.asked.source)
          h.asked.named,
    )
