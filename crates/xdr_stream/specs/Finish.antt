-- What the end of the bytes says of a value.
use Rattle.std.specs.Prelude.{⊤, ◌≡◌, ℕ, List, length, Result, Ok, Err}
use Rattle.xdr_types.specs.Kinds.{KindView, Lists}
use Rattle.xdr_types.specs.Within.{Bounds}
use Rattle.xdr_types.specs.View.{tree}
use Rattle.xdr_types.specs.Outcome as outcome
use Rattle.xdr_types.specs.Outcome.{Outcome}
use Rattle.xdr_types.specs.declared.kind.KindId.{KindId}
use Rattle.xdr_types.specs.declared.value.Value.{Value}
use Rattle.xdr_stream.specs.Trace.{Trace}
use Rattle.xdr_stream.specs.Values.{Reports}
use Rattle.xdr_stream.specs.Represents.{Fails, RepresentsBytes}
use Rattle.xdr_stream.specs.declared.fault.DecodeFault.{DecodeFault}
use Rattle.xdr_stream.specs.declared.fault.Reason.TheVariants.{Truncated}
use Rattle.xdr_stream.specs.declared.reader.Reader.{Reader}
use Rattle.xdr_stream.specs.declared.builder.nothing.Nothing.{Nothing}
use Rattle.xdr_stream.specs.declared.builder.values.Values.{Values}

-- a decoder's fields stand for these bytes, all that it was given up to the value's end
abbrev pub Represents : Reader Values → (b : List ℕ) → Type 0
Represents r b = RepresentsBytes ⊥ (λ (v : Values) (t : Trace). Reports v t) r b

-- a checker's fields stand for these bytes
abbrev pub Checks : Reader Nothing → (b : List ℕ) → Type 0
Checks r b = RepresentsBytes ⊤ (λ (n : Nothing) (t : Trace). ⊤) r b

-- what a fault at their end says of all of the bytes b: they end inside a value, at their count; or they are refused
abbrev pub EndsWith : List KindView → (kind : ℕ) → Bounds → (b : List ℕ) → DecodeFault → Type 0
EndsWith kinds kind limits b f =
    (f.why ≡ Truncated → Outcome kinds kind limits b outcome.Pending × (f.at ≡ length b))
    × ((f.why ≡ Truncated → ⊥) → Fails kinds kind limits f b)

-- what the end says of the bytes b: the value that is whole in them, or a fault
abbrev pub Finishes : List KindView → (kind : ℕ) → Bounds → (b : List ℕ) → Result Value DecodeFault → Type 0
Finishes kinds kind limits b (Ok v) = Outcome kinds kind limits b (outcome.Whole (tree v) (length b))
Finishes kinds kind limits b (Err f) = EndsWith kinds kind limits b f

-- the settings of a new reader
pub record IsStarted {B : Type 0} (r : Reader B) (schema : Lists) (kind : KindId) (limits : Bounds) : Type 0 where
  pub schema_is : r.schema.now ≡ schema
  pub kind_is : r.kind ≡ kind
  pub limits_are : r.limits ≡ limits
