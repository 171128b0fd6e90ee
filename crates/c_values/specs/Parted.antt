-- What listing the parts of the value that begins an input leaves in two buffers (RFC 4506 section 4).
use Rattle.std.specs.Prelude.{◌≡◌, ◌<◌, ◌⊎◌, ℕ, List, [], ◌++◌, length, drop, Option, Some, None}
use Rattle.xdr_types.specs.Layout.{entries}
use Rattle.xdr_types.specs.Within.{AreBounds}
use Rattle.xdr_stream.specs.Reasons.{reason_number}
use Rattle.xdr_parts.specs.Counted.{names_of}
use Rattle.xdr_parts.specs.declared.counting.PartCounts.{PartCounts}
use Rattle.xdr_lang.specs.Declarations.{Declared}
use Rattle.c_values.specs.declared.part.ValuePart.{ValuePart}
use Rattle.c_values.specs.declared.listed.Listed.{Listed}
use Rattle.c_values.specs.declared.listed.Listed.TheVariants as listed
use Rattle.c_values.specs.declared.listed.PartsOutcome.{PartsOutcome}
use Rattle.c_values.specs.Answers.{Question, BeginsWithValue, IsRefusal, Names, NamesNone, question}
use Rattle.c_values.specs.Parts.{AreEach}

-- what C lends: a buffer for parts, and one for the bytes of their names
pub record Buffers : Type 0 where
  pub parts : List ValuePart
  pub names : List ℕ

-- The parts are those of the value whose encoding is the first bytes, in their order, and the names theirs, joined. The
-- counts tell the bytes of the value, the parts, and the bytes of the names.
pub record AreParts (q : Question) (input : List ℕ) (parts : List ValuePart) (names : List ℕ) (c : PartCounts) : Type 0
  where
    pub begins : BeginsWithValue q input c.used
    pub each : AreEach q.kinds input names [] (entries q.kinds q.place begins.value) parts
    pub joined : names ≡ names_of (entries q.kinds q.place begins.value)
    pub count : c.parts ≡ length parts
    pub bytes : c.names ≡ length names

-- they stand at the front of the buffers, whose other places stay
pub record ArePut (parts : List ValuePart) (names : List ℕ) (old new : Buffers) : Type 0 where
  pub parts_front : new.parts ≡ parts ++ drop (length parts) old.parts
  pub names_front : new.names ≡ names ++ drop (length names) old.names

-- nothing is written
pub record AreRetained (old new : Buffers) : Type 0 where
  pub parts_stay : new.parts ≡ old.parts
  pub names_stay : new.names ≡ old.names

-- a buffer is too small
abbrev pub IsSmall : Buffers → PartCounts → Type 0
IsSmall old c = (length old.parts < c.parts) ⊎ (length old.names < c.names)

-- parts of a value that begins the input stand in the buffers
abbrev pub IsListed : Question → (input : List ℕ) → (old new : Buffers) → PartCounts → Type 0
IsListed q input old new c =
    (parts : List ValuePart) × (names : List ℕ) × AreParts q input parts names c × ArePut parts names old new

-- parts of a value that begins the input do not go into the buffers
abbrev pub HasNoRoom : Question → (input : List ℕ) → (old new : Buffers) → PartCounts → Type 0
HasNoRoom q input old new c = (parts : List ValuePart) × (names : List ℕ) × AreParts q input parts names c
    × IsSmall old c × AreRetained old new

-- the answer is right for the bytes, and this stands in the buffers
abbrev pub IsParted : Question → (input : List ℕ) → (old new : Buffers) → Listed → Type 0
IsParted q input old new (listed.Whole c) = IsListed q input old new c × (c.used ≡ length input)
IsParted q input old new (listed.Followed c) = IsListed q input old new c × (c.used < length input)
IsParted q input old new (listed.Refused f) = IsRefusal q input f × AreRetained old new
IsParted q input old new listed.NoMemory = AreRetained old new
IsParted q input old new (listed.NoRoom c) = HasNoRoom q input old new c
IsParted q input old new _ = ⊥

-- The answer is right for bytes as a value of the kind of that name within limits in range.
pub record IsPartedBy (d : Declared) (name : List ℕ) (depth bytes : ℕ) (input : List ℕ) (old new : Buffers) (a : Listed)
    : Type 0 where
  pub place : ℕ
  pub names : Names d name place
  pub in_range : AreBounds depth bytes
  pub parted : IsParted (question d place depth bytes) input old new a

-- the answer is right by what is held; the name is looked at before the limits
abbrev pub IsPartedByHeld : (held : Option Declared) → (name : List ℕ) → (depth bytes : ℕ) → (input : List ℕ)
    → (old new : Buffers) → Listed → Type 0
IsPartedByHeld None name depth bytes input old new a = (a ≡ listed.NoDeclarations) × AreRetained old new
IsPartedByHeld (Some d) name depth bytes input old new listed.NoKind = NamesNone d name × AreRetained old new
IsPartedByHeld (Some d) name depth bytes input old new listed.BadLimits =
    ((place : ℕ) × Names d name place) × (AreBounds depth bytes → ⊥) × AreRetained old new
IsPartedByHeld (Some d) name depth bytes input old new a = IsPartedBy d name depth bytes input old new a

-- how C sees the answer: a status,
abbrev pub parts_status : Listed → ℕ
parts_status (listed.Whole c) = 0
parts_status (listed.Followed c) = 1
parts_status (listed.Refused f) = 2
parts_status listed.NoKind = 4
parts_status listed.BadLimits = 5
parts_status listed.NoMemory = 6
parts_status listed.NoDeclarations = 7
parts_status (listed.NoRoom c) = 8

-- the counts, and nothing else
abbrev pub counted : PartCounts → PartsOutcome
counted c = record { at = c.used; parts = c.parts; names = c.names; why = 0 }

-- no field is reported
abbrev pub silent : PartsOutcome
silent = record { at = 0; parts = 0; names = 0; why = 0 }

-- and the fields of an outcome, each 0 where nothing is reported
abbrev pub parts_outcome : Listed → PartsOutcome
parts_outcome (listed.Whole c) = counted c
parts_outcome (listed.Followed c) = counted c
parts_outcome (listed.Refused f) = record { at = f.at; parts = 0; names = 0; why = reason_number f.why }
parts_outcome listed.NoKind = silent
parts_outcome listed.BadLimits = silent
parts_outcome listed.NoMemory = silent
parts_outcome listed.NoDeclarations = silent
parts_outcome (listed.NoRoom c) = counted c

-- a status and an outcome that are those of an answer of which this holds
abbrev pub ReportsParts : (Listed → Type 0) → (status : ℕ) → PartsOutcome → Type 0
ReportsParts Is status outcome =
    (a : Listed) × Is a × (status ≡ parts_status a) × (outcome ≡ parts_outcome a)
