-- What is not refused, and what nothing is due for.
use Rattle.std.proofs.Common.{◌≡◌, inl, inr, ℕ, Some, refl, ap}
use Rattle.xdr_tokens.specs.declared.fault.Fault.{Fault}
use Rattle.xdr_tokens.specs.declared.fault.Fault.TheVariants as fault
use Rattle.xdr_tokens.specs.Due.{RefusesRightly}
use Rattle.xdr_types.specs.Kinds.{Lists}
use Rattle.xdr_types.specs.Faults.{IsWellFormed}
use Rattle.xdr_types.specs.Sound.{IsSound}
use Rattle.xdr_types.specs.Refused.{IsRefused}
use Rattle.xdr_types.specs.declared.fault.Flaw.TheVariants as flaw
use Rattle.xdr_types.specs.declared.fault.SchemaFault.{SchemaFault}
use Rattle.xdr_types.proofs.Refusing.{refused}

-- lists that are well formed and sound are refused by an allocation failure alone
pub only_memory : (s : Lists) (e : SchemaFault) → IsWellFormed s → IsSound s.kinds → IsRefused s e
    → e.why ≡ flaw.NoMemory
only_memory s e ok sound (inl m) = ap (λ (x : SchemaFault). x.why) m
only_memory s e ok sound (inr first) = absurd (refused s e first ok sound)

-- what is refused, but not by an allocation failure, is not due
pub refused_is_not_due : {A : Type 0} (e : Fault) (n : ℕ) (a : A) → (e ≡ fault.NoMemory → n ≡ 13) → (n ≡ 13 → ⊥)
    → RefusesRightly e (Some a) → ⊥
refused_is_not_due fault.NoMemory n a reported not h = not (reported refl)
refused_is_not_due (fault.Refused wrong left) n a reported not h = absurd cc

-- what is refused in place of one thing is refused in place of another
pub fails_same : {A B : Type 0} (e : Fault) (a : A) (b : B) → RefusesRightly e (Some a) → RefusesRightly e (Some b)
fails_same fault.NoMemory a b h = tt
fails_same (fault.Refused wrong left) a b h = absurd cc
