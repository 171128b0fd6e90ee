-- What the numbers of a refusal are.
use Rattle.std.specs.Prelude.{◌≡◌, ◌≢◌, ◌≤◌, ◌⊎◌, ℕ}

-- The schema's number, 1 to 10, goes with number 10 alone; with another it is 0. Its 11, an allocation failure, is 13.
abbrev pub IsInner : ℕ → ℕ → Type 0
IsInner number inner = ((number ≡ 10) × (1 ≤ inner) × (inner ≤ 10)) ⊎ ((number ≢ 10) × (inner ≡ 0))
