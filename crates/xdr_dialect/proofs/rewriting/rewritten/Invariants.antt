use Rattle.std.proofs.Common.{◌≡◌, ◌++◌, length}
use Rattle.xdr_dialect.specs.declared.scope.Scope.TheVariants as scope
use Rattle.xdr_dialect.specs.Dialect.{all_placed, rewritten_places}
use Rattle.xdr_dialect.proofs.rewriting.rewritten.Given as goal

abbrev pub invariant-loop-rest : goal.invariant-loop-rest
invariant-loop-rest l =
    rewritten_places scope.Elsewhere 0 (all_placed l.tokens)
    ≡ all_placed l.found.items ++ rewritten_places l.scope l.skip (all_placed l.rest)

abbrev pub decreases-loop-rest : goal.decreases-loop-rest
decreases-loop-rest l = length l.rest
