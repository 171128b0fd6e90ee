-- What a refusal of bytes says.
use Rattle.std.specs.Prelude.{◌≡◌, ◌≤◌, ℕ, List, [], ◌++◌, length, ⊤, Result, IfErr}
use Rattle.xdr_types.specs.Kinds.{KindView}
use Rattle.xdr_types.specs.Tree.{Tree}
use Rattle.xdr_types.specs.Spelling.{bytes_of}
use Rattle.xdr_types.specs.Within.{Bounds, FitsWithin}
use Rattle.xdr_stream.specs.declared.fault.DecodeFault.{DecodeFault}
use Rattle.xdr_stream.specs.declared.fault.Reason.{Reason}
use Rattle.xdr_stream.specs.declared.fault.Reason.TheVariants as reason

-- What may still follow refused bytes: nothing where they are cut, anything where they are broken.
-- Where memory was refused nothing is ruled out.
abbrev pub MayFollow : Reason → List ℕ → Type 0
MayFollow reason.BadBool y = ⊤
MayFollow reason.BadNumbered y = ⊤
MayFollow reason.BadCase y = ⊤
MayFollow reason.TooLong y = ⊤
MayFollow reason.BadPadding y = ⊤
MayFollow reason.TooDeep y = ⊤
MayFollow reason.TooLarge y = ⊤
MayFollow reason.Truncated y = y ≡ []
MayFollow reason.NoMemory y = ⊥

-- no value of the kind within the limits begins the bytes
abbrev pub HasNoneWithin : List KindView → ℕ → Bounds → List ℕ → Type 0
HasNoneWithin kinds place limits b = (t : Tree) (x : List ℕ) → FitsWithin kinds place limits t
    → bytes_of kinds place t ++ x ≡ b → ⊥

-- the claim holds of the bytes, whatever may follow them
abbrev pub IsRefused : (List ℕ → Type 0) → Reason → List ℕ → Type 0
IsRefused Claim why b = (y : List ℕ) → MayFollow why y → Claim (b ++ y)

-- what a fault says of an input: no value of the kind within the limits begins it, whatever may follow it. The place
-- lies within the input, and at its end where the input is cut
pub record Refuses {A : Type 0} (kinds : List KindView) (kind : ℕ) (limits : Bounds) (input : List ℕ)
    (answer : Result A DecodeFault) : Type 0 where
  pub refused : IfErr answer (λ f. IsRefused (HasNoneWithin kinds kind limits) f.why input)
  pub place : IfErr answer (λ f. f.at ≤ length input)
  pub truncated : IfErr answer (λ f. f.why ≡ reason.Truncated → f.at ≡ length input)
