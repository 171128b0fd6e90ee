use Rattle.std.proofs.Common.{◌≡◌, ◌++◌, length}
use Rattle.xdr_tokens.specs.Tokens.{lexemes}
use Rattle.xdr_dialect.specs.Library.{lacking}
use Rattle.xdr_dialect.specs.Answers.{texts}
use Rattle.xdr_dialect.specs.Dialect.{all_placed, standing_at}
use Rattle.xdr_dialect.proofs.library.add_lacking.Given as goal

abbrev pub invariant-loop-rest : goal.invariant-loop-rest
invariant-loop-rest l =
    all_placed l.initial.found.items ++ standing_at l.left (lacking (lexemes l.tokens) l.meaning (texts l.names))
    ≡ all_placed l.found.items ++ standing_at l.left (lacking (lexemes l.tokens) l.meaning (texts l.rest))

abbrev pub decreases-loop-rest : goal.decreases-loop-rest
decreases-loop-rest l = length l.rest
