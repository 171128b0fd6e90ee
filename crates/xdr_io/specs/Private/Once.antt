-- What one more read does.
use Rattle.std.specs.Prelude.{◌≡◌, ◌≢◌, ℕ, ◌≤◌, ◌++◌, List, Option, Result, take, IfErr}
use Rattle.std.specs.Io.KnownBytes.{Consumes, IsAtEnd}
use Rattle.xdr_io.specs.Reported.{Counts, MovesAtMost}
use Rattle.xdr_io.specs.declared.input.InputFault.{InputFault}
use Rattle.xdr_io.specs.declared.input.InputFault.TheVariants as fault

-- The next n bytes of the source, 0 only where none is left, stand at the front of the array, and behind the bytes
-- that were there.
pub record Adds (n : ℕ) (array : List ℕ) (left left' : Option (List ℕ)) (bytes bytes' : List ℕ) : Type 0 where
  pub bound : n ≤ 4096
  pub read : Consumes left left' (take n array)
  pub end : n ≡ 0 → IsAtEnd left'
  pub added : bytes' ≡ bytes ++ take n array

-- It was one read, of an array at most, and is never one too many.
pub record ReadsOnce {A : Type 0} (left left' : Option (List ℕ)) (reads reads' : Option ℕ)
    (result : Result A InputFault) : Type 0 where
  pub count : Counts 1 reads reads'
  pub moved : MovesAtMost 4096 left left'
  pub few : IfErr result (λ f. f ≢ fault.TooManyReads)
