-- The fault that tells how decoding ends.
use Rattle.std.specs.Prelude.{◌≡◌, ◌⊎◌, ℕ, ⊤, Option, Some, None}
use Rattle.xdr_types.specs.Outcome as outcome
use Rattle.xdr_types.specs.Outcome.{Why, Ending, Pending, Whole, TooDeep, TooLarge, Broken}
use Rattle.xdr_stream.specs.declared.fault.DecodeFault.{DecodeFault}
use Rattle.xdr_stream.specs.declared.fault.Reason.{Reason}
use Rattle.xdr_stream.specs.declared.fault.Reason.TheVariants as reason
use Rattle.example_xdr.specs.declared.reasons.Faults.{Faults}

abbrev pub reason_of : Why → Reason
reason_of outcome.bad_bool = reason.BadBool
reason_of outcome.bad_numbered = reason.BadNumbered
reason_of outcome.bad_case = reason.BadCase
reason_of outcome.too_long = reason.TooLong
reason_of outcome.bad_padding = reason.BadPadding

-- the fault of so many bytes, where no value is whole in them
abbrev pub fault_of : (count : ℕ) → Ending → DecodeFault
fault_of count Pending = record { why = reason.Truncated; at = count }
fault_of count (Whole v p) = record { why = reason.NoMemory; at = p }
fault_of count (TooDeep p) = record { why = reason.TooDeep; at = p }
fault_of count (TooLarge p) = record { why = reason.TooLarge; at = p }
fault_of count (Broken why p) = record { why = reason_of why; at = p }

-- no value is whole
abbrev pub IsNone : Ending → Type 0
IsNone (Whole v p) = ⊥
IsNone _ = ⊤

-- there is a fault, and it is this one, or says that memory was refused
abbrev pub Says : DecodeFault → Option DecodeFault → Type 0
Says f None = ⊥
Says f (Some g) = (g ≡ f) ⊎ (g.why ≡ reason.NoMemory)

-- and so of each call
pub record EachSays (f : DecodeFault) (all : Faults) : Type 0 where
  pub decoded : Says f all.decoded
  pub fed : Says f all.fed
  pub lent : Says f all.lent
