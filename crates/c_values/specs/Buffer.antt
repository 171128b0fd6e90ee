-- What a call leaves in the buffer that C lends.
use Rattle.std.specs.Prelude.{◌≡◌, ℕ, List, length}
use Rattle.c_answers.specs.Buffers.{AreAtFront}

-- The bytes stand at the front of the buffer, whose other bytes stay.
pub record IsPut (form old new : List ℕ) (written : ℕ) : Type 0 where
  pub count : written ≡ length form
  pub front : AreAtFront form old new
