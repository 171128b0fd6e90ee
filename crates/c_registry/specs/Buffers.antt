-- What a call leaves in the buffer that C lends.
use Rattle.std.specs.Prelude.{◌≡◌, ℕ, List, length}
use Rattle.c_answers.specs.Buffers.{AreAtFront, HasTooFew}
use Rattle.c_registry.specs.declared.answer.Answer.{Answer}
use Rattle.c_registry.specs.declared.answer.Answer.TheVariants as answer

-- the bytes stand at the front of the buffer, whose other bytes stay; or the buffer has too few for them and stays
abbrev pub IsPlaced : (bytes old new : List ℕ) → Answer → Type 0
IsPlaced bytes old new (answer.Whole count) = (count ≡ length bytes) × AreAtFront bytes old new
IsPlaced bytes old new (answer.NoRoom needed) = (needed ≡ length bytes) × HasTooFew bytes old new
IsPlaced bytes old new _ = ⊥
