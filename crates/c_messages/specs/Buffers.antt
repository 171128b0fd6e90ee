-- What writing leaves in the buffer that the caller lends.
use Rattle.std.specs.Prelude.{◌≡◌, ℕ, List, length}
use Rattle.c_answers.specs.Buffers.{AreAtFront, HasTooFew}
use Rattle.c_messages.specs.declared.answer.Answer.{Answer}
use Rattle.c_messages.specs.declared.answer.Answer.TheVariants as answer

-- the bytes stand at the front of the buffer, whose other bytes stay; or the buffer has too few for them and stays
abbrev pub IsPlaced : (bytes old new : List ℕ) → (count : ℕ) → Answer → Type 0
IsPlaced bytes old new count answer.Whole = (count ≡ length bytes) × AreAtFront bytes old new
IsPlaced bytes old new count answer.NoRoom = (count ≡ length bytes) × HasTooFew bytes old new
IsPlaced bytes old new count _ = ⊥
