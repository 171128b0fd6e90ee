-- Where reading a value stops.
use Rattle.std.specs.Prelude.{◌⊎◌, ℕ, ◌+◌, ◌≤◌, Bool, true, false, List, ◌++◌, length, Option, ⊤}
use Rattle.std.specs.Io.KnownBytes.{Keeps, Consumes}
use Rattle.xdr_types.specs.Tree.{Tree}
use Rattle.xdr_types.specs.Outcome.{Pending, Whole}
use Rattle.xdr_io.specs.Reported.{Counts, CountsAtMost}
use Rattle.oncrpc_tasks.specs.Right.{Question, HasOutcome}

-- The bytes settle no answer: they end inside a value, or with it, so that one byte more makes another answer.
abbrev pub IsUnsettled : Question → List ℕ → Type 0
IsUnsettled q bytes = HasOutcome q bytes Pending ⊎ ((v : Tree) × HasOutcome q bytes (Whole v (length bytes)))

-- All that was read settles no answer.
pub record ReadsUnsettled (q : Question) (left left' : Option (List ℕ)) : Type 0 where
  pub bytes : List ℕ
  pub unsettled : IsUnsettled q bytes
  pub read : Consumes left left' bytes

-- What was read before the last read settles no answer, and each read but the last brought some of it.
pub record LastRead (q : Question) (left left' : Option (List ℕ)) (reads reads' : Option ℕ) : Type 0 where
  pub before : List ℕ
  pub last : List ℕ
  pub unsettled : IsUnsettled q before
  pub page : length last ≤ 4096
  pub read : Consumes left left' (before ++ last)
  pub few : CountsAtMost (length before + 1) reads reads'

-- nothing was read
abbrev pub IsUnread : (left left' : Option (List ℕ)) → (reads reads' : Option ℕ) → Type 0
IsUnread left left' reads reads' = Keeps left left' × Counts 0 reads reads'

-- an input is judged as it is, and not as hexadecimal
abbrev pub IsPlain : (hex : Bool) → Type 0
IsPlain false = ⊤
IsPlain true = ⊥
