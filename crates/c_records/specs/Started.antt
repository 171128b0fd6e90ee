-- What starting a reader does.
use Rattle.std.specs.Prelude.{◌≡◌, ◌≤◌, ◌<◌, ◌^◌, ℕ, [], Option, Some, None}
use Rattle.c_records.specs.declared.answer.Answer.{Answer}
use Rattle.c_records.specs.declared.answer.Answer.TheVariants as answer
use Rattle.c_records.specs.Held.{Held, limit_of, IsTaking, Represents}

-- a reader with this limit, before the first byte
pub record IsFresh (most : ℕ) (h : Held) : Type 0 where
  pub limit : limit_of h ≡ most
  pub taking : IsTaking h
  pub represents : Represents h [] []

-- a fresh reader is held; nothing is where the limit is out of range, or memory was refused
abbrev pub IsStarted : (limit : ℕ) → (left : Option Held) → Answer → Type 0
IsStarted limit left (answer.Whole count) =
    (count ≡ 0) × (limit < 2 ^ 31) × (h : Held) × (left ≡ Some h) × IsFresh limit h
IsStarted limit left answer.BadLimit = (2 ^ 31 ≤ limit) × (left ≡ None)
IsStarted limit left answer.NoMemory = (limit < 2 ^ 31) × (left ≡ None)
IsStarted limit left _ = ⊥
