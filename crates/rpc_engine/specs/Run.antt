-- A run of the registry along records (RFC 5531 sections 9 and 11).
use Rattle.std.specs.Prelude.{◌≡◌, ℕ, List, [], ◌∷◌, ◌++◌, Bool, Option, Some, None}
use Rattle.registry_rows.specs.Rows.{Row}
use Rattle.registry_answer.specs.Answer.{Answer}

-- one reply, or none
abbrev pub listed : Option (List ℕ) → List (List ℕ)
listed None = []
listed (Some bytes) = bytes ∷ []

-- The records are answered in order, each by the rows that the one before left, with a yes or no of refused memory for
-- each: the rows in the end, and the replies in order. As output each reply is one last fragment, which is `normal` of
-- them.
abbrev pub Run : List Row → (netid : List ℕ) → (records : List (List ℕ)) → (refusals : List Bool) → (new : List Row)
    → (replies : List (List ℕ)) → Type 0
Run rows netid [] [] new replies = (new ≡ rows) × (replies ≡ [])
Run rows netid (r ∷ rs) (y ∷ ys) new replies =
    (mid : List Row) × ((sent : Option (List ℕ)) × ((more : List (List ℕ))
    × (Answer rows netid r y mid sent × Run mid netid rs ys new more × (replies ≡ listed sent ++ more))))
Run rows netid _ _ new replies = ⊥
