-- Texts at the front of bytes, as the code looks for them.
use Rattle.std.specs.Prelude.{◌≡◌, ℕ, ◌<◌, ◌^◌, List, ◌++◌, length}
use Rattle.rpc_message.specs.Spelling.{opaque}

-- no text begins the bytes
abbrev pub HasNoText : List ℕ → Type 0
HasNoText bytes = (text rest : List ℕ) → length text < 2 ^ 32 → bytes ≡ opaque text ++ rest → ⊥
