-- What is said of the refusal of a single argument.
use Rattle.std.specs.Prelude.{◌≡◌, ℕ, ◌≤◌, ⊤}
use Rattle.oncrpc_call.specs.declared.unasked.Unasked.{Unasked}
use Rattle.oncrpc_call.specs.declared.unasked.Unasked.TheVariants as unasked

-- a refusal of an argument is that of the first, at a place within so many bytes
abbrev pub IsFirst : (count : ℕ) → Unasked → Type 0
IsFirst count (unasked.Argument at f) = (at ≡ 0) × (f.at ≤ count)
IsFirst count _ = ⊤
