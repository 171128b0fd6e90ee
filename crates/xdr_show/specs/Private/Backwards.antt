-- A line that is written from its end.
use Rattle.std.specs.Prelude.{◌≡◌, ℕ, List, ◌++◌, replicate}

-- so many blanks, and then the text
abbrev pub IsWritten : (line : List ℕ) → (start : ℕ) → (text : List ℕ) → Type 0
IsWritten line start text = line ≡ replicate start 32 ++ text

-- what a line has from one place on, after it had something from another place on, is this and that
abbrev pub Puts : (old : List ℕ) → (end : ℕ) → (new : List ℕ) → (start : ℕ) → (more : List ℕ) → Type 0
Puts old end new start more = (text : List ℕ) → IsWritten old end text → IsWritten new start (more ++ text)
