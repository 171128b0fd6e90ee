-- Which bytes a decoder has been given, and what its answers say of the values that begin with them.
use Rattle.std.specs.Prelude.{◌≡◌, ℕ, ◌≤◌, List, ◌++◌, length, Result, Ok, Err, IfOk, IfErr}
use Rattle.xdr_types.specs.Kinds.{KindView, Lists}
use Rattle.xdr_types.specs.Tree.{Tree}
use Rattle.xdr_types.specs.Spelling.{bytes_of}
use Rattle.xdr_types.specs.View.{tree}
use Rattle.xdr_types.specs.Within.{Bounds, FitsWithin}
use Rattle.xdr_types.specs.declared.kind.KindId.{KindId}
use Rattle.xdr_types.specs.declared.value.Value.{Value}
use Rattle.xdr_stream.specs.Finish as stream
use Rattle.xdr_stream.specs.Represents.{used_of}
use Rattle.xdr_stream.specs.declared.fault.Reason.TheVariants as reason
use Rattle.xdr_stream.specs.declared.fault.DecodeFault.{DecodeFault}
use Rattle.xdr_stream.specs.declared.reader.State.TheVariants.{Finished, Failed}
use Rattle.xdr_stream.specs.declared.reader.Progress.{Progress}
use Rattle.xdr_stream.specs.declared.reader.Progress.TheVariants.{More, Done}
use Rattle.xdr_codec.specs.Held.{GoesOn, IsWaiting}
use Rattle.xdr_codec.specs.Refused.{HasNoneWithin, IsRefused}
use Rattle.xdr_codec.specs.Settings.{schema_of, kinds_of, kind_of, limits_of}
use Rattle.xdr_codec.specs.declared.decoder.Decoder.{Decoder}

-- a value of the kind within the limits, whose encoding the bytes are
abbrev pub IsWhole : List KindView → ℕ → Bounds → Tree → List ℕ → Type 0
IsWhole kinds place limits t b = FitsWithin kinds place limits t × (bytes_of kinds place t ≡ b)

-- unless memory was refused, no value begins the bytes, however they go on
abbrev pub Fails : List KindView → ℕ → Bounds → DecodeFault → List ℕ → Type 0
Fails kinds place limits f b = (f.why ≡ reason.Truncated → ⊥)
    × ((f.why ≡ reason.NoMemory → ⊥) → (y : List ℕ) → HasNoneWithin kinds place limits (b ++ y)) × (f.at ≤ length b)

-- the decoder's fields stand for these bytes, all that it was given up to the value's end
abbrev pub RepresentsBytes : Decoder → List ℕ → Type 0
RepresentsBytes d b = stream.Represents d.reader b

-- what an answer says of the bytes so far: they begin with no value; they encode a value; none begins them however they
-- go on
abbrev pub AnswersAs : List KindView → ℕ → Bounds → List ℕ → Result Progress DecodeFault → Type 0
AnswersAs kinds place limits b (Ok More) = HasNoneWithin kinds place limits b
AnswersAs kinds place limits b (Ok (Done used)) = (t : Tree) × IsWhole kinds place limits t b
AnswersAs kinds place limits b (Err f) = Fails kinds place limits f b

abbrev pub Answers : Decoder → List ℕ → Result Progress DecodeFault → Type 0
Answers d b r = AnswersAs (kinds_of d) (kind_of d).place (limits_of d) b r

-- what the end says of the bytes: they encode the value; or none begins them, and they end inside one or are broken
abbrev pub FinishesAs : List KindView → ℕ → Bounds → List ℕ → Result Value DecodeFault → Type 0
FinishesAs kinds place limits b (Ok v) = IsWhole kinds place limits (tree v) b
FinishesAs kinds place limits b (Err f) = IsRefused (HasNoneWithin kinds place limits) f.why b × (f.at ≤ length b)
    × (f.why ≡ reason.Truncated → f.at ≡ length b)

abbrev pub Finishes : Decoder → List ℕ → Result Value DecodeFault → Type 0
Finishes d b r = FinishesAs (kinds_of d) (kind_of d).place (limits_of d) b r

-- the settings of a new decoder
pub record IsStarted (d : Decoder) (schema : Lists) (kind : KindId) (limits : Bounds) : Type 0 where
  pub schema_is : schema_of d ≡ schema
  pub kind_is : kind_of d ≡ kind
  pub limits_are : limits_of d ≡ limits

-- the settings stay
pub record IsSame (a b : Decoder) : Type 0 where
  pub schema_is : schema_of b ≡ schema_of a
  pub kind_is : kind_of b ≡ kind_of a
  pub limits_are : limits_of b ≡ limits_of a

-- the value is whole
abbrev pub IsDone : Decoder → Type 0
IsDone d = d.reader.state ≡ Finished

-- this fault was answered
abbrev pub HasFailed : Decoder → DecodeFault → Type 0
HasFailed d f = d.reader.state ≡ Failed f

-- what an answer to a piece leaves: no more of the piece was used than it has, and the decoder's state is what was
-- answered
pub record Leaves (d : Decoder) (piece : List ℕ) (answer : Result Progress DecodeFault) : Type 0 where
  pub used : IfOk answer (λ p. used_of p ≤ length piece)
  pub more : IfOk answer (λ p. p ≡ More → IsWaiting d)
  pub goes_on : IfOk answer (λ p. p ≡ More → GoesOn d)
  pub done : IfOk answer (λ p. (used : ℕ) → p ≡ Done used → IsDone d)
  pub failed : IfErr answer (λ f. HasFailed d f)

-- an answer that was the last one comes again: nothing of a later piece is used after the value, a fault stays
pub record Stays (d : Decoder) (answer : Result Progress DecodeFault) : Type 0 where
  pub again : IsDone d → answer ≡ Ok (Done 0)
  pub for_ever : (f : DecodeFault) → HasFailed d f → answer ≡ Err f
