-- How printing what texts declare ends: what its exit status says.
use Rattle.std.specs.Prelude.{◌≡◌, ◌⊎◌, ℕ, ◌≤◌, ◌<◌, Bool, true, false, List, length, take, Option}
use Rattle.std.specs.Io.KnownBytes.{Appends}
use Rattle.xdr_io.specs.Reported.{Counts}
use Rattle.xdr_lang.specs.Declarations.{Declared}
use Rattle.xdr_lang.specs.declared.lang_fault.LangFault.{LangFault}
use Rattle.xdr_listing.specs.JsonListing.{json_listing}
use Rattle.xdr_listing.specs.Listing.{IsListing, listing}
use Rattle.xdr_listing.specs.Words.{Types}
use Rattle.oncrpc_answers.specs.declared.task.TypesTask.{TypesTask}
use Rattle.oncrpc_tasks.specs.Checked.{IsSaid}
use Rattle.oncrpc_tasks.specs.Devices.{Stream}
use Rattle.oncrpc_tasks.specs.Refusals.{declaration_line}
use Rattle.oncrpc_tasks.specs.Sources.{Declares, DeclaresNothing}

-- lines, or one JSON value (own)
abbrev pub listing_in : (json : Bool) → Declared → Types → List ℕ
listing_in false = listing
listing_in true = json_listing

-- The text is the listing of what texts that are reported declare, with the least and the greatest count of bytes of
-- each type.
pub record ListsTexts (reported : List ℕ → Option (List ℕ)) (what : TypesTask) (text : List ℕ) : Type 0 where
  pub declared : Declared
  pub declares : Declares reported what.types declared
  pub lists : IsListing (listing_in what.json) declared text

-- The whole of such a listing was written.
pub record ListsWhole (reported : List ℕ → Option (List ℕ)) (what : TypesTask) (taken taken' : Option (List ℕ))
    : Type 0 where
  pub text : List ℕ
  pub lists : ListsTexts reported what text
  pub written : Appends taken taken' text

-- The beginning of such a listing was written, and not all of it.
pub record ListsInPart (reported : List ℕ → Option (List ℕ)) (what : TypesTask) (taken taken' : Option (List ℕ))
    : Type 0 where
  pub text : List ℕ
  pub lists : ListsTexts reported what text
  pub count : ℕ
  pub cut : count < length text
  pub written : Appends taken taken' (take count text)

-- A text was not read, and then nothing was printed; or one write failed, behind the beginning of the listing.
abbrev pub StopsByDevice : {O : Type 0} → (List ℕ → Option (List ℕ)) → TypesTask → (file : Type 0)
    → (taken : O → Option (List ℕ))
    → (lost : O → Option ℕ)
    → (output output' : O)
    → Type 0
StopsByDevice reported what file taken lost output output' =
    (file × (output' ≡ output))
    ⊎ (ListsInPart reported what (taken output) (taken output') × Counts 1 (lost output) (lost output'))

-- The line of a fault of the texts was said, as far as the stream of faults took it. Which fault it is, and where, is
-- not told.
pub record SaysFault {F : Type 0} (what : TypesTask) (stream : Stream F) (faults faults' : F) : Type 0 where
  pub file : ℕ
  pub fault : LangFault
  pub said : IsSaid stream faults faults' (declaration_line what.types.files.items file fault)

-- What the status says. 0: the listing was printed, no write failed, and nothing was said of faults. 2: the texts have
-- no meaning, which was said, and nothing was printed. 3: a text was not read, or a write failed. 4: memory was
-- refused, and nothing was printed. It is never 1. `file` says that a text was not read.
pub record TypesEnd {O F : Type 0} (reported : List ℕ → Option (List ℕ)) (what : TypesTask) (file : Type 0)
    (taken : O → Option (List ℕ)) (lost : O → Option ℕ) (stream : Stream F) (output output' : O) (faults faults' : F)
    (status : ℕ) : Type 0 where
  pub known : status ≤ 4
  pub asked : status ≡ 1 → ⊥
  pub printed : status ≡ 0 → ListsWhole reported what (taken output) (taken output')
  pub unlost : status ≡ 0 → Counts 0 (lost output) (lost output')
  pub silent : status ≡ 0 → faults' ≡ faults
  pub refused : status ≡ 2 → DeclaresNothing reported what.types × (output' ≡ output)
  pub told : status ≡ 2 → SaysFault what stream faults faults'
  pub device : status ≡ 3 → StopsByDevice reported what file taken lost output output'
  pub wanting : status ≡ 4 → output' ≡ output
