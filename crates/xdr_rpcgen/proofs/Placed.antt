-- Tokens that stand somewhere stand there.
use Rattle.std.proofs.Common.{◌≡◌, ℕ, List, [], ◌∷◌, map, refl, ap}
use Rattle.xdr_tokens.specs.declared.token.Token.{Token}
use Rattle.xdr_dialect.specs.Dialect.{left_of, all_placed}
use Rattle.xdr_rpcgen.specs.Private.Places.{lefts}

pub lefts_placed : (ts : List Token) → map left_of ts ≡ lefts (all_placed ts)
lefts_placed [] = refl
lefts_placed (t ∷ ts) = ap (λ (l : List ℕ). left_of t ∷ l) (lefts_placed ts)
