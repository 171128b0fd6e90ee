use Rattle.std.proofs.Common.{◌≡◌, drop, map}
use Rattle.std.specs.Prelude.{◌==◌}
use Rattle.std.specs.List.{list_any}
use Rattle.xdr_lang.specs.Declarations.{Program}
use Rattle.xdr_lang.specs.Views.{program_of}
use Rattle.oncrpc_watch.proofs.terms.has_program.Given as goal

abbrev pub invariant-loop-other : goal.invariant-loop-other
invariant-loop-other l = list_any (λ (p : Program). p.number == l.program)
    (map program_of (drop l.other-index l.programs))
    ≡ list_any (λ (p : Program). p.number == l.program) (map program_of l.programs)
