-- Which names of constants are there twice (RFC 4506 section 6.4).
use Rattle.std.specs.Prelude.{ℕ, Bool, false, ◌||◌, List, [], ◌∷◌, ◌++◌, map}
use Rattle.std.specs.List.{list_any}
use Rattle.std.specs.Str.{bytes_eq}
use Rattle.xdr_constants.specs.Constants.{Known}

-- the names of constants
abbrev pub names : List Known → List (List ℕ)
names ks = map (λ (k : Known). k.name) ks

-- Some name is one of those before it.
unfoldable pub repeat_after : List (List ℕ) → List (List ℕ) → Bool
repeat_after before [] = false
repeat_after before (n ∷ ns) = list_any (bytes_eq n) before || repeat_after (before ++ n ∷ []) ns
