-- Which answer to a check is right.
use Rattle.std.specs.Prelude.{◌≡◌, ◌≢◌, ◌≤◌, ◌<◌, ℕ, List, length, take, ⊤}
use Rattle.std.specs.Str.{IsUtf8}
use Rattle.xdr_types.specs.Kinds.{KindView}
use Rattle.xdr_types.specs.Tree.{Tree}
use Rattle.xdr_types.specs.Spelling.{bytes_of}
use Rattle.xdr_types.specs.Within.{Bounds, AreBounds, FitsWithin}
use Rattle.xdr_types.specs.Outcome.{Outcome, Whole}
use Rattle.xdr_stream.specs.Finish.{EndsWith}
use Rattle.xdr_stream.specs.declared.fault.DecodeFault.{DecodeFault}
use Rattle.xdr_stream.specs.declared.fault.Reason.TheVariants as reason
use Rattle.xdr_codec.specs.Refused.{HasNoneWithin, IsRefused}
use Rattle.xdr_lang.specs.Declarations.{Declared}
use Rattle.xdr_lang.specs.Means.{Means}
use Rattle.oncrpc_kinds.specs.Naming as naming
use Rattle.c_values.specs.declared.answer.Answer.{Answer}
use Rattle.c_values.specs.declared.answer.Answer.TheVariants as answer
use Rattle.c_values.specs.Unread.{IsUndeclared}

-- what is asked of bytes: the kinds, the place of the value's kind, and the limits
pub record Question : Type 0 where
  pub kinds : List KindView
  pub place : ℕ
  pub limits : Bounds

-- The first bytes are a value within the limits, and that is the outcome of decoding (RFC 4506 sections 3 and 4).
pub record BeginsWithValue (q : Question) (input : List ℕ) (used : ℕ) : Type 0 where
  pub value : Tree
  pub outcome : Outcome q.kinds q.place q.limits input (Whole value used)
  pub fits : FitsWithin q.kinds q.place q.limits value
  pub within : used ≤ length input
  pub spelled : bytes_of q.kinds q.place value ≡ take used input

-- The reason and the place are those of the outcome of decoding. No value begins the bytes; unless they are cut short,
-- none begins any longer input either.
pub record IsRefusal (q : Question) (input : List ℕ) (f : DecodeFault) : Type 0 where
  pub known : f.why ≢ reason.NoMemory
  pub outcome : EndsWith q.kinds q.place q.limits input f
  pub none : IsRefused (HasNoneWithin q.kinds q.place q.limits) f.why input
  pub within : f.at ≤ length input

-- the answer is right for the bytes; that memory was refused says nothing of them
abbrev pub IsJudged : Question → (input : List ℕ) → Answer → Type 0
IsJudged q input (answer.Whole used) = BeginsWithValue q input used × (used ≡ length input)
IsJudged q input (answer.Followed used) = BeginsWithValue q input used × (used < length input)
IsJudged q input (answer.Refused f) = IsRefusal q input f
IsJudged q input answer.NoMemory = ⊤
IsJudged q input _ = ⊥

-- The name is that of the kind at this place: of the schema, or of an argument or a result (RFC 5531 section 12.3).
pub record Names (d : Declared) (name : List ℕ) (place : ℕ) : Type 0 where
  pub named : naming.Names name d place
  pub known : place < length d.schema.kinds

-- The name is no text, or names nothing.
pub record NamesNone (d : Declared) (name : List ℕ) : Type 0 where
  pub none : IsUtf8 name → (place : ℕ) → Names d name place → ⊥

-- what is asked by the place of a kind that is declared
abbrev pub question : Declared → (place depth bytes : ℕ) → Question
question d place depth bytes =
    record { kinds = d.schema.kinds; place = place; limits = record { depth = depth; bytes = bytes } }

-- The answer is right for bytes as a value of the kind of that name within limits in range.
pub record IsJudgedBy (d : Declared) (name : List ℕ) (depth bytes : ℕ) (input : List ℕ) (a : Answer) : Type 0 where
  pub place : ℕ
  pub names : Names d name place
  pub in_range : AreBounds depth bytes
  pub judged : IsJudged (question d place depth bytes) input a

-- the answer is right by what is declared; the name is looked at before the limits
abbrev pub IsRight : Declared → (name : List ℕ) → (depth bytes : ℕ) → (input : List ℕ) → Answer → Type 0
IsRight d name depth bytes input answer.NoKind = NamesNone d name
IsRight d name depth bytes input answer.BadLimits = ((place : ℕ) × Names d name place) × (AreBounds depth bytes → ⊥)
IsRight d name depth bytes input a = IsJudgedBy d name depth bytes input a

-- the answer is right by what the text declares
abbrev pub IsRightByText : (text name : List ℕ) → (depth bytes : ℕ) → (input : List ℕ) → Answer → Type 0
IsRightByText text name depth bytes input (answer.Undeclared f) = IsUndeclared text f
IsRightByText text name depth bytes input answer.NoMemory = ⊤
IsRightByText text name depth bytes input a = (d : Declared) × Means text d × IsRight d name depth bytes input a
