-- Texts with dots between their parts.
use Rattle.std.specs.Prelude.{◌≡◌, ℕ, List, false, nat_eq}
use Rattle.std.specs.List.{AllByRecursion}

-- no byte is a dot
abbrev pub HasNoDot : List ℕ → Type 0
HasNoDot text = AllByRecursion (λ b. nat_eq b 46 ≡ false) text
