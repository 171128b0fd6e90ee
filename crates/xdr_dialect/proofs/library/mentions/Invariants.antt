use Rattle.std.proofs.Common.{◌≡◌, length}
use Rattle.std.specs.List.{list_any}
use Rattle.xdr_tokens.specs.Tokens.{lexemes}
use Rattle.xdr_dialect.specs.Tests.{is_named}
use Rattle.xdr_dialect.proofs.library.mentions.Given as goal

abbrev pub invariant-loop-rest : goal.invariant-loop-rest
invariant-loop-rest l = list_any (is_named l.wanted) (lexemes l.tokens) ≡ list_any (is_named l.wanted) (lexemes l.rest)

abbrev pub decreases-loop-rest : goal.decreases-loop-rest
decreases-loop-rest l = length l.rest
