use Rattle.std.proofs.Common.{◌≡◌, ◌++◌, length}
use Rattle.xdr_tokens.specs.Tokens.{lexemes}
use Rattle.xdr_constants.specs.Views.{knowns}
use Rattle.xdr_aliases.specs.Aliases.{given}
use Rattle.xdr_aliases.proofs.given.given.Given as goal

abbrev pub invariant-loop-rest : goal.invariant-loop-rest
invariant-loop-rest l = given (lexemes l.tokens) ≡ knowns l.table.list.items ++ given (lexemes l.rest)

abbrev pub decreases-loop-rest : goal.decreases-loop-rest
decreases-loop-rest l = length l.rest
