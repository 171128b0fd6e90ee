-- Lines that were written, and texts of which only a beginning was written.
use Rattle.std.specs.Prelude.{ℕ, suc, ◌<◌, List, [], ◌∷◌, ◌++◌, length, take, Option, Result, Ok, Err}
use Rattle.std.specs.Io.KnownBytes.{Appends}
use Rattle.xdr_io.specs.Reported.{Counts}
use Rattle.oncrpc_answers.specs.declared.failure.Failure.{Failure}
use Rattle.oncrpc_answers.specs.declared.failure.Failure.TheVariants as failure

-- the lines of things that are numbered, the first with this number
abbrev pub numbered : {X : Type 0} → (line : ℕ → X → List ℕ) → (number : ℕ) → List X → List ℕ
numbered line number [] = []
numbered line number (x ∷ xs) = line number x ++ numbered line (suc number) xs

-- The first bytes of a text were written, and not all of it.
pub record InPart (text : List ℕ) (taken taken' : Option (List ℕ)) : Type 0 where
  pub count : ℕ
  pub cut : count < length text
  pub written : Appends taken taken' (take count text)

-- why a text was written in part: the output failed, or there was no memory for its last line
abbrev pub IsCut : (text : List ℕ) → (taken taken' : Option (List ℕ)) → (lost lost' : Option ℕ) → Failure → Type 0
IsCut text taken taken' lost lost' failure.Write = InPart text taken taken' × Counts 1 lost lost'
IsCut text taken taken' lost lost' failure.NoMemory = InPart text taken taken'
IsCut text taken taken' lost lost' _ = ⊥

-- what printing a line did: it was written whole, or in part
abbrev pub IsPrinted : (line : List ℕ) → (taken taken' : Option (List ℕ)) → (lost lost' : Option ℕ)
    → Result (Unit {0}) Failure → Type 0
IsPrinted line taken taken' lost lost' (Ok _) = Appends taken taken' line × Counts 0 lost lost'
IsPrinted line taken taken' lost lost' (Err f) = IsCut line taken taken' lost lost' f
