-- What putting bytes gives.
use Rattle.std.specs.Prelude.{ℕ, List, Result, MatchResult}

-- all of the bytes were put, or not all of them could be
abbrev pub PutAll : {S A E : Type 0} → (sends cuts : S → S → List ℕ → Type 0) → S → S → List ℕ → Result A E → Type 0
PutAll sends cuts a b bytes r = MatchResult r (λ _. sends a b bytes) (λ _. cuts a b bytes)
