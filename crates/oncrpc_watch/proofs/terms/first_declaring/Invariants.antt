use Rattle.std.proofs.Common.{◌≡◌, drop}
use Rattle.xdr_lang.specs.Views.{declared_of}
use Rattle.oncrpc_watch.specs.Terms.{first_declaring, each_declared}
use Rattle.oncrpc_watch.proofs.terms.first_declaring.Given as goal

abbrev pub invariant-loop-text : goal.invariant-loop-text
invariant-loop-text l = first_declaring (declared_of l.declared) (each_declared (drop l.text-index l.known)) l.program
    ≡ first_declaring (declared_of l.declared) (each_declared l.known) l.program
