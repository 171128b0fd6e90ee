-- Lists in which a fault is found make no schema.
use Rattle.std.proofs.Common.{◌≡◌, inl, inr, ℕ, Option, Some, None, arith, sym, ◌∙◌}
use Rattle.xdr_types.specs.Kinds.{Lists}
use Rattle.xdr_types.specs.Faults.{AreFlawless, IsWellFormed, kind_flaw_at, name_flaw_at}
use Rattle.xdr_types.specs.Refused.{IsFirstFlaw, IsFirstFault}
use Rattle.xdr_types.specs.Sound.{IsSound}
use Rattle.xdr_types.specs.declared.fault.Flaw.{Flaw}
use Rattle.xdr_types.specs.declared.fault.SchemaFault.{SchemaFault}

-- where no place has a flaw, none is the first
pub no-flaw : (flaw_at : ℕ → Option Flaw) (n : ℕ) (e : SchemaFault) → AreFlawless flaw_at n → IsFirstFlaw flaw_at n e
    → ⊥
no-flaw flaw_at n e h first =
    let differs : None ≡ Some e.why = sym (h e.place first.within) ∙ first.here in
    cc

pub refused : (s : Lists) (e : SchemaFault) → IsFirstFault s e → IsWellFormed s → IsSound s.kinds → ⊥
refused s e (inl many) well sound = absurd (omega (arith, many.0, well.few))
refused s e (inr (inl kind)) well sound = no-flaw (kind_flaw_at s.kinds) _ e well.kinds kind.1
refused s e (inr (inr (inl name))) well sound = no-flaw (name_flaw_at s.kinds s.names) _ e well.names name.2
refused s e (inr (inr (inr low))) well sound = low.2.none (sound e.place low.2.within)
