-- Sections around a byte, the innermost first, where the code has it last.
use Rattle.std.proofs.Common.{◌≡◌, ◌<◌, List, [], ◌∷◌, ◌++◌, length, reverse, refl, arith, Ok, Err}
use Rattle.std.proofs.lemmas.List.{reverse-append, length-reverse}
use Rattle.xdr_tokens.specs.declared.fault.Fault.TheVariants as fault
use Rattle.xdr_tokens.specs.declared.fault.Wrong.TheVariants as wrong
use Rattle.xdr_dialect.specs.declared.gate.Gate.{Gate}
use Rattle.xdr_dialect.specs.Plain.{ended}

-- one more comes in front
pub one_more : (gs : List Gate) (g : Gate) → reverse (gs ++ g ∷ []) ≡ g ∷ reverse gs
one_more gs g = rw reverse-append refl

-- a section is open
ended_open : (gs : List Gate) → 0 < length gs → ended gs ≡ Err (fault.Refused wrong.Unexpected 0)
ended_open [] lt = absurd (omega arith)
ended_open (g ∷ gs) lt = refl

pub reverse_open : (gs : List Gate) → 0 < length gs → ended (reverse gs) ≡ Err (fault.Refused wrong.Unexpected 0)
reverse_open gs lt = ended_open (reverse gs) (rw length-reverse lt)

-- none is
pub reverse_closed : (gs : List Gate) → length gs ≡ 0 → ended (reverse gs) ≡ Ok []
reverse_closed [] none = refl
reverse_closed (g ∷ gs) none = absurd (omega arith)

pub ruleset ending = (reverse_open, reverse_closed)
