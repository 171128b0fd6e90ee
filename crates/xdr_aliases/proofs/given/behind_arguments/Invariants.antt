use Rattle.std.proofs.Common.{◌≡◌, length}
use Rattle.xdr_tokens.specs.Tokens.{lexemes}
use Rattle.xdr_aliases.specs.Aliases.{behind_arguments}
use Rattle.xdr_aliases.proofs.given.behind_arguments.Given as goal

abbrev pub invariant-loop-left : goal.invariant-loop-left
invariant-loop-left l = behind_arguments (lexemes l.left) ≡ behind_arguments (lexemes l.tokens)

abbrev pub decreases-loop-left : goal.decreases-loop-left
decreases-loop-left l = length l.left
