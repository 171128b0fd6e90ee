-- The line in which a place lies (own).
use Rattle.std.specs.Prelude.{ℕ, List, [], ◌∷◌, ◌==◌, if◌then◌else◌}
use Rattle.std.specs.List.{list_any}

-- what follows the last line feed; all where there is none
abbrev pub last_line : List ℕ → List ℕ
last_line [] = []
last_line (b ∷ bs) = if list_any (λ (c : ℕ). c == 10) (b ∷ bs) then last_line bs else b ∷ bs
