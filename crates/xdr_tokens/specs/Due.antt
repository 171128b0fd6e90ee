-- What a function returned, against what is due. An allocation failure may come at any time.
use Rattle.std.specs.Prelude.{◌≡◌, Option, Some, None, Result, Ok, Err}
use Rattle.xdr_tokens.specs.declared.fault.Fault.{Fault}
use Rattle.xdr_tokens.specs.declared.fault.Fault.TheVariants as fault

-- Nothing is due, where a text was refused.
abbrev pub RefusesRightly : {Y : Type 0} → Fault → Option Y → Type 0
RefusesRightly fault.NoMemory due = Unit {0}
RefusesRightly (fault.Refused wrong left) due = due ≡ None

-- What a function returned, seen by view, is what is due, unless memory ran out.
abbrev pub Gives : {X Y : Type 0} → (X → Y) → Result X Fault → Option Y → Type 0
Gives view (Ok x) due = due ≡ Some (view x)
Gives view (Err e) due = RefusesRightly e due
