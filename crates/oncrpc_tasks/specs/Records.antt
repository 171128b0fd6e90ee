-- What writing a stream of records in its normal form has done (RFC 5531 section 11).
use Rattle.std.specs.Prelude.{◌≡◌, ℕ, ◌<◌, ◌≤◌, Bool, true, false, List, [], ◌∷◌, ◌++◌, length, Option, None, Some, Ok}
use Rattle.std.specs.Prelude.{⊤, codes, decimal}
use Rattle.std.specs.Io.KnownBytes.{Appends}
use Rattle.hex.specs.Hex.{decode_of, encode_lower}
use Rattle.rpc_record.specs.declared.fault.Count.{Count}
use Rattle.rpc_record.specs.declared.fault.RecordFault.TheVariants as fault
use Rattle.rpc_record.specs.Normalised.{Normalised, Stops}
use Rattle.oncrpc_answers.specs.declared.failure.Failure.{Failure}
use Rattle.oncrpc_answers.specs.declared.failure.Failure.TheVariants as failure
use Rattle.oncrpc_tasks.specs.declared.records.Marking.{Marking}
use Rattle.oncrpc_tasks.specs.declared.records.Marking.TheVariants as marking
use Rattle.oncrpc_tasks.specs.Hexadecimal.{digits, IsBadHex}
use Rattle.oncrpc_tasks.specs.declared.hexadecimal.TheConstants.{MOST_TEXT}

-- the line of a refusal, which ends with a line feed
abbrev pub refusal_line : Marking → List ℕ
refusal_line marking.Whole = []
refusal_line (marking.TooLong at) = codes "refused TooLong at " ++ decimal at ++ codes "\n"
refusal_line (marking.Truncated at) = codes "refused Truncated at " ++ decimal at ++ codes "\n"
refusal_line marking.BadHex = codes "refused bad hex\n"
refusal_line marking.HexTooLong = codes "refused hex too long\n"

-- The input, read as it is, was normalised to its end, or up to a refusal.
abbrev pub Marks : ℕ → (left left' taken taken' : Option (List ℕ)) → Marking → Type 0
Marks limit left left' taken taken' marking.Whole = (count : Count) × Normalised limit left left' taken taken' count
Marks limit left left' taken taken' (marking.TooLong at) = Stops limit left left' taken taken' (fault.TooLong at)
Marks limit left left' taken taken' (marking.Truncated at) = Stops limit left left' taken taken' (fault.Truncated at)
Marks limit left left' taken taken' _ = ⊥

-- The input, read as it is, was normalised up to where a device failed or memory was refused.
abbrev pub StopsFor : Failure → ℕ → (left left' taken taken' : Option (List ℕ)) → Type 0
StopsFor failure.Read limit left left' taken taken' = Stops limit left left' taken taken' fault.Read
StopsFor failure.Write limit left left' taken taken' =
    (written : ℕ) × Stops limit left left' taken taken' (fault.Write written)
StopsFor failure.TooManyReads limit left left' taken taken' = Stops limit left left' taken taken' fault.TooManyReads
StopsFor failure.NoMemory limit left left' taken taken' = Stops limit left left' taken taken' fault.NoMemory

-- The bytes that a text spells were normalised, and that was written as lower-case hexadecimal and a line feed.
pub record MarksSpelled (limit : ℕ) (text : List ℕ) (taken taken' : Option (List ℕ)) (m : Marking) : Type 0 where
  pub bytes : List ℕ
  pub rest : Option (List ℕ)
  pub form : List ℕ
  pub short : length text ≤ MOST_TEXT
  pub spelled : decode_of (digits text) ≡ Ok bytes
  pub marks : Marks limit (Some bytes) rest (Some []) (Some form) m
  pub written : Appends taken taken' (encode_lower form ++ 10 ∷ [])

-- what a text of hexadecimal gives; where it spells no bytes nothing is written
abbrev pub MarksText : ℕ → List ℕ → (taken taken' : Option (List ℕ)) → Marking → Type 0
MarksText limit text taken taken' marking.HexTooLong = (MOST_TEXT < length text) × Appends taken taken' []
MarksText limit text taken taken' marking.BadHex = (length text ≤ MOST_TEXT) × IsBadHex text × Appends taken taken' []
MarksText limit text taken taken' m = MarksSpelled limit text taken taken' m

abbrev pub MarksAsText : ℕ → (left taken taken' : Option (List ℕ)) → Marking → Type 0
MarksAsText limit None taken taken' m = ⊤
MarksAsText limit (Some text) taken taken' m = MarksText limit text taken taken' m

-- for an input read as it is, or as a text of hexadecimal
abbrev pub IsMarking : ℕ → Bool → (left left' taken taken' : Option (List ℕ)) → Marking → Type 0
IsMarking limit false left left' taken taken' m = Marks limit left left' taken taken' m
IsMarking limit true left left' taken taken' m = MarksAsText limit left taken taken' m

-- the input was normalised to its end
abbrev pub Done : ℕ → Bool → (left left' taken taken' : Option (List ℕ)) → Type 0
Done limit hex left left' taken taken' = IsMarking limit hex left left' taken taken' marking.Whole

abbrev pub IsRefused : Marking → Type 0
IsRefused marking.Whole = ⊥
IsRefused _ = ⊤

-- The input was normalised up to what is refused, or is no hexadecimal.
abbrev pub RefusedBytes : ℕ → Bool → (left left' taken taken' : Option (List ℕ)) → Type 0
RefusedBytes limit hex left left' taken taken' =
    (m : Marking) × IsRefused m × IsMarking limit hex left left' taken taken' m
