-- Several texts as one (own).
use Rattle.std.specs.Prelude.{ℕ, suc, ◌-◌, ◌==◌, nat_le, if◌then◌else◌, List, [], ◌∷◌, ◌++◌, map, count_by}
use Rattle.std.specs.Borrow.{Bor}

-- the bytes of texts
abbrev pub contents : List (Bor (List ℕ)) → List (List ℕ)
contents ts = map (λ t. t.now) ts

-- texts, each behind a line feed
unfoldable pub behind_feeds : List (List ℕ) → List ℕ
behind_feeds [] = []
behind_feeds (t ∷ ts) = (10 ∷ t) ++ behind_feeds ts

-- the texts in their order, a line feed between two
abbrev pub joined : List (List ℕ) → List ℕ
joined [] = []
joined (t ∷ ts) = t ++ behind_feeds ts

-- how many line feeds a text has
abbrev pub feeds : List ℕ → ℕ
feeds t = count_by (λ b. b == 10) t

-- The text in which a line of all stands, from 0, and the line there. Lines count from 1; the last text has all that
-- are left.
unfoldable pub place_in : List (List ℕ) → (line : ℕ) → ℕ × ℕ
place_in [] line = (0, line)
place_in (t ∷ []) line = (0, line)
place_in (t ∷ u ∷ ts) line =
    if nat_le (line - feeds t) 1 then (0, line) else (
      suc (place_in (u ∷ ts) (line - feeds t - 1)).0,
      (place_in (u ∷ ts) (line - feeds t - 1)).1,
    )
