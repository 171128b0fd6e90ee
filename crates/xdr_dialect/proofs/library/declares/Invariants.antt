use Rattle.std.proofs.Common.{◌≡◌, false, length}
use Rattle.xdr_tokens.specs.Tokens.{lexemes}
use Rattle.xdr_dialect.specs.Library.{declares_from}
use Rattle.xdr_dialect.proofs.library.declares.Given as goal

abbrev pub invariant-loop-left : goal.invariant-loop-left
invariant-loop-left l =
    declares_from false l.wanted (lexemes l.tokens) ≡ declares_from l.inside l.wanted (lexemes l.left)

abbrev pub decreases-loop-left : goal.decreases-loop-left
decreases-loop-left l = length l.left
