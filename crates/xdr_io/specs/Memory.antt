-- How a source and a sink over borrowed memory answer a call.
use Rattle.std.specs.Prelude.{◌≡◌, ℕ, ◌+◌, ◌-◌, ◌^◌, ◌⊎◌, List, min, length, Some, Ok, Err, Option, Result}
use Rattle.xdr_io.specs.declared.memory.MemorySource.{MemorySource}
use Rattle.xdr_io.specs.declared.memory.MemorySink.{MemorySink}

-- The next call is the one that fails. 2^64 - 1 stands for every later number.
abbrev pub IsDue : Option ℕ → ℕ → Type 0
IsDue failing calls = failing ≡ Some (min (calls + 1) (2 ^ 64 - 1))

-- A read fails exactly where it is the one that fails, and else gives a whole piece while there is one.
abbrev pub ReadAnswers : {E : Type 0} → MemorySource → Result ℕ E → Type 0
ReadAnswers old (Ok n) = (IsDue old.failing old.reads → ⊥) × (n ≡ min (min (length old.rest.now) old.piece) 4096)
ReadAnswers old (Err e) = IsDue old.failing old.reads

-- the pieces and the call that fails stay
abbrev pub SameSource : MemorySource → MemorySource → Type 0
SameSource old new = (new.piece ≡ old.piece) × (new.failing ≡ old.failing)

-- the slice is full
abbrev pub IsFull : MemorySink → Type 0
IsFull sink = sink.used ≡ length sink.buffer.now

-- A write fails exactly where it is the one that fails or the slice is full, and else takes a whole piece while it has
-- buffer.
abbrev pub WriteAnswers : {E : Type 0} → MemorySink → Result ℕ E → List ℕ → Type 0
WriteAnswers old (Ok n) piece = (IsDue old.failing old.writes → ⊥) × (IsFull old → ⊥)
    × (n ≡ min (min (length piece) old.piece) (length old.buffer.now - old.used))
WriteAnswers old (Err e) piece = IsDue old.failing old.writes ⊎ IsFull old

-- the buffer, the pieces and the call that fails stay
abbrev pub SameSink : MemorySink → MemorySink → Type 0
SameSink old new = (length new.buffer.now ≡ length old.buffer.now) × (new.piece ≡ old.piece)
    × (new.failing ≡ old.failing)
