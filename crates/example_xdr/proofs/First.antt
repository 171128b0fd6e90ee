-- The first fault of lists is the one that their refusal says.
use Rattle.std.proofs.Common.{◌≡◌, ◌⊎◌, inl, inr, ℕ, zero, suc, ◌+◌, ◌<◌, ◌≤◌, eqb, length}
use Rattle.std.proofs.Common.{Option, Some, None, Result, Ok, Err, MatchResult, refl, ap, sym, subst, ◌∙◌, arith}
use Rattle.xdr_types.specs.Kinds.{Lists}
use Rattle.xdr_types.specs.Faults.{fault, kind_flaw_at, name_flaw_at, IsWellFormed}
use Rattle.xdr_types.specs.Refused.{IsFirstFault, IsRefused}
use Rattle.xdr_types.specs.Sound.{IsSound}
use Rattle.xdr_types.specs.declared.fault.Flaw.{Flaw}
use Rattle.xdr_types.specs.declared.fault.Flaw.TheVariants as flaw
use Rattle.xdr_types.specs.declared.fault.SchemaFault.{SchemaFault}
use Rattle.example_xdr.specs.Refusal.{first_from, first_flaw, IsRefusedFor, IsNoFlaw}
use Rattle.xdr_types.proofs.Heighting.{same_or_not}

none : (at : ℕ → Option Flaw) (n place : ℕ) → ((q : ℕ) → place ≤ q → q < place + n → at q ≡ None)
    → first_from at n place ≡ None
none at zero place h = refl
none at (suc n) place h =
    let here : at place ≡ None = h place (omega arith) (omega arith) in
    rw here (none at n (place + 1) (λ q low high. h q (omega arith) (omega arith)))

first : (at : ℕ → Option Flaw) (n place : ℕ) (f : SchemaFault) → place ≤ f.place → f.place < place + n
    → ((q : ℕ) → place ≤ q → q < f.place → at q ≡ None)
    → at f.place ≡ Some f.why → first_from at n place ≡ Some f
first at zero place f low high before here = absurd (omega arith)
first at (suc n) place f low high before here =
    elim (same_or_not f.place place (eqb f.place place) refl) [
      | inl same ↦
          let found : at place ≡ Some f.why = ap at (sym same) ∙ here in
          rw found (ap (λ (k : ℕ). Some (fault f.why k)) (sym same))
      | inr other ↦
          let past : place < f.place = omega (arith, other) in
          let absent : at place ≡ None = before place (omega arith) past in
          rw absent (first at n (place + 1) f (omega arith) (omega arith) (λ q a b. before q (omega arith) b) here)
    ]

none≢some : (e : SchemaFault) → None ≡ Some e → ⊥
none≢some e h = cc

some-is : (e f : SchemaFault) → Some e ≡ Some f → f ≡ e
some-is e f h = cc

whole : (s : Lists) → IsWellFormed s → first_flaw s ≡ None
whole s well =
    let kinds = none (kind_flaw_at s.kinds) (length s.kinds) 0 (λ q low high. well.kinds q (omega arith)) in
    let names = none (name_flaw_at s.kinds s.names) (length s.names) 0 (λ q low high. well.names q (omega arith)) in
    rw (kinds, names) refl

-- lists with a flaw are not well formed
pub not_well : (s : Lists) (e : SchemaFault) → first_flaw s ≡ Some e → IsWellFormed s → ⊥
not_well s e is well = none≢some e (sym (whole s well) ∙ is)

faulty : (s : Lists) (e f : SchemaFault) → length s.kinds ≤ 1024 → first_flaw s ≡ Some e → IsFirstFault s f → f ≡ e
faulty s e f few is (inl many) = absurd (omega (arith, many.0))
faulty s e f few is (inr (inl kind)) =
    let found : first_from (kind_flaw_at s.kinds) (length s.kinds) 0 ≡ Some f =
    first (kind_flaw_at s.kinds) (length s.kinds) 0 f (omega arith) (omega (arith, kind.1.within))
    (λ q low high. kind.1.before q high) kind.1.here in
    let all : first_flaw s ≡ Some f = rw found refl in
    some-is e f (sym is ∙ all)
faulty s e f few is (inr (inr (inl name))) =
    let kinds : first_from (kind_flaw_at s.kinds) (length s.kinds) 0 ≡ None =
    none (kind_flaw_at s.kinds) (length s.kinds) 0 (λ q low high. name.1 q (omega arith)) in
    let found : first_from (name_flaw_at s.kinds s.names) (length s.names) 0 ≡ Some f =
    first (name_flaw_at s.kinds s.names) (length s.names) 0 f (omega arith) (omega (arith, name.2.within))
    (λ q low high. name.2.before q high) name.2.here in
    let all : first_flaw s ≡ Some f = rw (kinds, found) refl in
    some-is e f (sym is ∙ all)
faulty s e f few is (inr (inr (inr endless))) = absurd (not_well s e is endless.0)

-- a refusal of lists with a flaw says the first one, or that memory was refused
pub refused : (s : Lists) (e f : SchemaFault) → length s.kinds ≤ 1024 → first_flaw s ≡ Some e → IsRefused s f
    → (Some f ≡ Some e) ⊎ (Some f ≡ Some (fault flaw.NoMemory 0))
refused s e f few is (inl memory) = inr (ap Some memory)
refused s e f few is (inr found) = inl (ap Some (faulty s e f few is found))

-- a refusal of lists without a flaw is an allocation failure, or says that a kind has no finite value
otherwise : (s : Lists) (f : SchemaFault) → length s.kinds ≤ 1024 → first_flaw s ≡ None → IsRefused s f
    → (f.why ≡ flaw.NoFiniteValue) ⊎ (f.why ≡ flaw.NoMemory)
otherwise s f few is (inl memory) = inr (ap (λ (e : SchemaFault). e.why) memory)
otherwise s f few is (inr (inl many)) = absurd (omega (arith, many.0))
otherwise s f few is (inr (inr (inl kind))) =
    let found : first_from (kind_flaw_at s.kinds) (length s.kinds) 0 ≡ Some f =
    first (kind_flaw_at s.kinds) (length s.kinds) 0 f (omega arith) (omega (arith, kind.1.within))
    (λ q low high. kind.1.before q high) kind.1.here in
    let all : first_flaw s ≡ Some f = rw found refl in
    absurd (none≢some f (sym is ∙ all))
otherwise s f few is (inr (inr (inr (inl name)))) =
    let kinds : first_from (kind_flaw_at s.kinds) (length s.kinds) 0 ≡ None =
    none (kind_flaw_at s.kinds) (length s.kinds) 0 (λ q low high. name.1 q (omega arith)) in
    let found : first_from (name_flaw_at s.kinds s.names) (length s.names) 0 ≡ Some f =
    first (name_flaw_at s.kinds s.names) (length s.names) 0 f (omega arith) (omega (arith, name.2.within))
    (λ q low high. name.2.before q high) name.2.here in
    let all : first_flaw s ≡ Some f = rw (kinds, found) refl in
    absurd (none≢some f (sym is ∙ all))
otherwise s f few is (inr (inr (inr (inr endless)))) = inl endless.1

-- the fault of a refusal
abbrev pub err_of : Result Lists SchemaFault → Option SchemaFault
err_of (Ok s) = None
err_of (Err e) = Some e

-- what `Schema::build` answers for lists with a flaw
pub answered : (s : Lists) (r : Result Lists SchemaFault) (o : Option SchemaFault) (why : Flaw) (place : ℕ)
    → MatchResult r (λ t. (t ≡ s) × IsWellFormed t × IsSound t.kinds) (λ e. IsRefused s e) → length s.kinds ≤ 1024
    → first_flaw s ≡ Some (fault why place) → o ≡ err_of r → IsRefusedFor o why place
answered s (Ok t) o why place h few is e = absurd (not_well t (fault why place) (ap first_flaw h.0 ∙ is) h.1)
answered s (Err f) o why place h few is e =
    elim (refused s (fault why place) f few is h) [ inl first ↦ inl (e ∙ first) | inr memory ↦ inr (e ∙ memory) ]

crowd : (s : Lists) (f : SchemaFault) → 1024 < length s.kinds → IsRefused s f
    → (f ≡ fault flaw.TooManyKinds 0) ⊎ (f ≡ fault flaw.NoMemory 0)
crowd s f many (inl memory) = inr memory
crowd s f many (inr (inl crowded_lists)) = inl crowded_lists.1
crowd s f many (inr (inr (inl kind))) = absurd (omega (arith, many, kind.0))
crowd s f many (inr (inr (inr (inl name)))) = absurd (omega (arith, many, name.0))
crowd s f many (inr (inr (inr (inr endless)))) = absurd (omega (arith, many, endless.0.few))

-- what `Schema::build` answers for too many kinds
pub crowded : (s : Lists) (r : Result Lists SchemaFault) (o : Option SchemaFault)
    → MatchResult r (λ t. (t ≡ s) × IsWellFormed t × IsSound t.kinds) (λ e. IsRefused s e) → 1024 < length s.kinds
    → o ≡ err_of r → IsRefusedFor o flaw.TooManyKinds 0
crowded s (Ok t) o h many e =
    let same : length t.kinds ≡ length s.kinds = ap (λ (l : Lists). length l.kinds) h.0 in
    absurd (omega (arith, many, same, h.1.few))
crowded s (Err f) o h many e =
    elim (crowd s f many h) [ inl first ↦ inl (e ∙ ap Some first) | inr memory ↦ inr (e ∙ ap Some memory) ]

-- what `Schema::build` answers for lists without a flaw
pub flawless : (s : Lists) (r : Result Lists SchemaFault) (o : Option SchemaFault)
    → MatchResult r (λ t. (t ≡ s) × IsWellFormed t × IsSound t.kinds) (λ e. IsRefused s e) → length s.kinds ≤ 1024
    → first_flaw s ≡ None → o ≡ err_of r → IsNoFlaw o
flawless s (Ok t) o h few is e = subst IsNoFlaw (sym e) tt
flawless s (Err f) o h few is e = subst IsNoFlaw (sym e) (otherwise s f few is h)
