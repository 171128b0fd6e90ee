-- Fewer nodes begin at one place than its kind is high.
use Rattle.std.proofs.Common.{◌≡◌, ℕ, zero, suc, ◌+◌, ◌<◌, ◌≤◌, List, [], ◌∷◌, ◌++◌, length, refl, sym, ap}
use Rattle.std.proofs.Common.{subst, arith, inl, inr, replicate}
use Rattle.std.specs.Prelude.{◌⊎◌}
use Rattle.std.specs.List.{AllByRecursion}
use Rattle.std.proofs.lemmas.Bool.{cases_lt, false≢true}
use Rattle.std.proofs.lemmas.List.{length-append}
use Rattle.xdr_types.specs.Kinds as xdr
use Rattle.xdr_types.specs.Kinds.{KindView, Part, kind_at}
use Rattle.xdr_types.specs.Tree as value
use Rattle.xdr_types.specs.Tree.{Head, Values, Tree, from_list}
use Rattle.xdr_types.specs.Fits.{Fits, fits, parts, item_part}
use Rattle.xdr_types.specs.Spelling.{own, spelling}
use Rattle.xdr_types.specs.Layout.{entries}
use Rattle.xdr_laws.proofs.Legal.{IsLegal, FitAll, fit_node}
use Rattle.xdr_laws.specs.Parts.{nodes_at}
use Rattle.xdr_laws.proofs.Numbers.{unit_of, unit4-length}
use Rattle.xdr_laws.proofs.WholeUnits.{root_fits}
use Rattle.xdr_laws.proofs.Nodes.{AreMembers, IsFormed, Over, AreOver, here, here_one, here_not, count, count_node}
use Rattle.xdr_laws.proofs.Nodes.{count_before, count_after, long_or_open, IsVoid, solid_or_void, parts_members}
use Rattle.xdr_laws.proofs.Nodes.{spelled, first_long, void_one}

-- each of the kinds is below this height
abbrev AreBelow : (ℕ → ℕ) → ℕ → List Part → Type 0
AreBelow height n ts = AllByRecursion (λ (t : Part). height t.kind < n) ts

below_copies : (height : ℕ → ℕ) (m n : ℕ) (t : Part) → height t.kind < m → AreBelow height m (replicate n t)
below_copies height m zero t h = tt
below_copies height m (suc n) t h = (h, below_copies height m n t h)

-- the parts of a head without bytes are lower than it
lower_parts : (s : List KindView) (height : ℕ → ℕ) (m : ℕ) (k : KindView) (h : Head) → Over (λ part. height part < m) k
    → IsLegal s k h → own k h ≡ [] → AreBelow height m (parts k h)
lower_parts s height m (xdr.fixed item size) (value.items n) a l e = below_copies height m n (item_part item) a
lower_parts s height m (xdr.structure fields) value.fields a l e = a
lower_parts s height m (xdr.up_to item max) (value.items n) a l e = absurd (omega (arith, unit4-length n, ap length e))
lower_parts s height m (xdr.choice tag arms other) (value.tag z) a l e = absurd
    (omega (arith, unit4-length (unit_of z), ap length e))
lower_parts s height m (xdr.maybe item) value.present a l e = absurd (omega (arith, unit4-length 1, ap length e))
lower_parts s height m _ _ a l e = tt

all_below : (height : ℕ → ℕ) (n : ℕ) → ((t : ℕ) → height t < n) → (ts : List Part) → AreBelow height n ts
all_below height n h [] = tt
all_below height n h (t ∷ ts) = (h t.kind, all_below height n h ts)

module _ (s : List KindView) (formed : IsFormed s) (height : ℕ → ℕ) (proper : AreOver s height) where
  -- at the place where values begin
  starts : (n place d : ℕ) (ts : List Part) (v : Values) → AreMembers s ts → AreBelow height n ts → FitAll s ts v
      → count s place place d ts v ≤ n
  starts n place d [] v m b f = omega arith
  starts n place d (t ∷ ts) value.none m b f = absurd (false≢true f)
  starts n place d (t ∷ ts) (value.node h ps rest) m b fits =
      let f = fit_node s t ts h ps rest fits in
      let k : KindView = kind_at s t.kind in
      let inside : ℕ = place + length (own k h) in
      let after : ℕ = place + length (own k h) + length (spelling s (parts k h) ps) in
      let long = first_long s formed t h ps m.0 f.0 f.1 in
      let past : count s place after d ts rest ≡ 0 = count_before s place after d ts rest f.2 (omega arith) in
      let whole = count_node s place place d t ts h ps rest f.0 in
      let one = here_one place place in
      let inner : AreMembers s (parts k h) → AreBelow height (height t.kind) (parts k h)
      → count s inside inside (d + 1) (parts k h) ps ≤ height t.kind =
      λ a c. starts (height t.kind) inside (d + 1) (parts k h) ps a c f.1 in
      elim (long_or_open s k h (formed t.kind) m.0 f.0) [
        | inl own_long ↦ (let none : count s place inside (d + 1) (parts k h) ps
            ≡ 0 = count_before s place inside (d + 1) (parts k h) ps f.1 (omega arith) in omega (arith, b.0))
        | inr o ↦
            (let same : inside ≡ place = omega (arith, ap length o.0) in
            let low : count s place inside (d + 1) (parts k h) ps ≤ height t.kind =
            subst (λ (p : ℕ). count s p inside (d + 1) (parts k h) ps ≤ height t.kind) same
            (inner o.1.0 (lower_parts s height (height t.kind) k h (proper t.kind) f.0 o.0)) in
            omega (arith, b.0))
      ]

  -- at the place where values end
  ends : (place d : ℕ) (ts : List Part) (v : Values) → AreMembers s ts → FitAll s ts v
      → count s (place + length (spelling s ts v)) place d ts v ≤ 1
  ends place d [] v m f = omega arith
  ends place d (t ∷ ts) value.none m f = absurd (false≢true f)
  ends place d (t ∷ ts) (value.node h ps rest) m fits =
      let f = fit_node s t ts h ps rest fits in
      let k : KindView = kind_at s t.kind in
      let sv : List ℕ = spelling s (parts k h) ps in
      let sw : List ℕ = spelling s ts rest in
      let inside : ℕ = place + length (own k h) in
      let after : ℕ = place + length (own k h) + length sv in
      let p : ℕ = place + length ((own k h ++ sv) ++ sw) in
      let far : p ≡ after + length sw = omega (arith, length-append (own k h ++ sv) sw, length-append (own k h) sv) in
      let long = first_long s formed t h ps m.0 f.0 f.1 in
      let not_first : here place p ≡ 0 = here_not place p (λ same. absurd (omega arith)) in
      let whole = count_node s p place d t ts h ps rest f.0 in
      let inner : (AreMembers s (parts k h) ⊎ IsVoid s (parts k h))
      → count s after inside (d + 1) (parts k h) ps ≤ 1 = λ e. elim e [
        | inl a ↦ ends inside (d + 1) (parts k h) ps a f.1
        | inr o ↦ void_one s formed after inside (d + 1) (parts k h) ps o f.1
      ] in
      let last : count s (after + length sw) after d ts rest ≤ 1 = ends after d ts rest m.1 f.2 in
      let last_p : count s p after d ts rest ≤ 1 = subst (λ (n : ℕ). count s n after d ts rest ≤ 1) (sym far) last in
      elim (cases_lt 0 (length ts)) [
        | inl more ↦
            (let rest_long : 0 < length sw = spelled s formed ts rest m.1 more f.2 in
            let none : count s p inside (d + 1) (parts k h) ps
            ≡ 0 = count_after s p inside (d + 1) (parts k h) ps f.1 (omega arith) in
            omega arith)
        | inr no_more ↦
            (let no_rest : count s p after d ts rest ≡ 0 = none_of p after d ts rest (omega arith) in
            let at_end : p ≡ after = omega (arith, far, empty_of ts rest (omega arith)) in
            let one : count s p inside (d + 1) (parts k h) ps ≤ 1 = subst
            (λ (n : ℕ). count s n inside (d + 1) (parts k h) ps ≤ 1) (sym at_end)
            (inner (parts_members s k h (formed t.kind))) in
            omega arith)
      ]
    where
      none_of : (p place d : ℕ) (ts : List Part) (v : Values) → length ts ≡ 0 → count s p place d ts v ≡ 0
      none_of p place d [] v e = refl
      none_of p place d (t ∷ ts) v e = absurd (omega arith)

      empty_of : (ts : List Part) (v : Values) → length ts ≡ 0 → length (spelling s ts v) ≡ 0
      empty_of [] v e = refl
      empty_of (t ∷ ts) v e = absurd (omega arith)

module _ (s : List KindView) (formed : IsFormed s) (height : ℕ → ℕ) (proper : AreOver s height) (kinds : ℕ)
    (bound : (t : ℕ) → height t < kinds) where
  -- at any place
  anywhere : (p place d : ℕ) (ts : List Part) (v : Values) → AreMembers s ts → FitAll s ts v
      → count s p place d ts v ≤ kinds + 1
  anywhere p place d [] v m f = omega arith
  anywhere p place d (t ∷ ts) value.none m f = absurd (false≢true f)
  anywhere p place d (t ∷ ts) (value.node h ps rest) m fits =
      let f = fit_node s t ts h ps rest fits in
      let k : KindView = kind_at s t.kind in
      let sv : List ℕ = spelling s (parts k h) ps in
      let inside : ℕ = place + length (own k h) in
      let after : ℕ = place + length (own k h) + length sv in
      let long = first_long s formed t h ps m.0 f.0 f.1 in
      let whole = count_node s p place d t ts h ps rest f.0 in
      let inner : (AreMembers s (parts k h) ⊎ IsVoid s (parts k h))
      → count s p inside (d + 1) (parts k h) ps ≤ kinds + 1 = λ e. elim e [
        | inl a ↦ anywhere p inside (d + 1) (parts k h) ps a f.1
        | inr o ↦ (let one = void_one s formed p inside (d + 1) (parts k h) ps o f.1 in omega arith)
      ] in
      let inner_end : (AreMembers s (parts k h) ⊎ IsVoid s (parts k h))
      → count s after inside (d + 1) (parts k h) ps ≤ 1 = λ e. elim e [
        | inl a ↦ ends s formed height proper inside (d + 1) (parts k h) ps a f.1
        | inr o ↦ void_one s formed after inside (d + 1) (parts k h) ps o f.1
      ] in
      let outer : count s p after d ts rest ≤ kinds + 1 = anywhere p after d ts rest m.1 f.2 in
      let members = parts_members s k h (formed t.kind) in
      elim (cases_lt p after) [
        | inl early ↦
            (let no_rest : count s p after d ts rest ≡ 0 = count_before s p after d ts rest f.2 early in
            elim (cases_lt place p) [
              | inl later ↦ (let not_first : here place p
                  ≡ 0 = here_not place p (λ same. absurd (omega arith)) in let low = inner members in omega arith)
              | inr sooner ↦ elim (cases_lt p place) [
                | inl before ↦ (let zero_all : count s p place d (t ∷ ts) (value.node h ps rest)
                    ≡ 0 = count_before s p place d (t ∷ ts) (value.node h ps rest) fits before in omega arith)
                | inr not_before ↦
                    (let same : place ≡ p = omega arith in
                    let start = starts s formed height proper kinds place d (t ∷ ts) (value.node h ps rest) m
                    (all_below height kinds bound (t ∷ ts)) fits in
                    let here_it : count s p place d (t ∷ ts) (value.node h ps rest) ≤ kinds = subst
                    (λ (n : ℕ). count s n place d (t ∷ ts) (value.node h ps rest) ≤ kinds) same start in
                    omega arith)
              ]
            ])
        | inr late ↦
            (let not_first : here place p ≡ 0 = here_not place p (λ same. absurd (omega arith)) in
            elim (cases_lt after p) [
              | inl beyond ↦ (let none : count s p inside (d + 1) (parts k h) ps
                  ≡ 0 = count_after s p inside (d + 1) (parts k h) ps f.1 beyond in omega arith)
              | inr not_beyond ↦
                  (let same : after ≡ p = omega arith in
                  let one : count s p inside (d + 1) (parts k h) ps ≤ 1 = subst
                  (λ (n : ℕ). count s n inside (d + 1) (parts k h) ps ≤ 1) same (inner_end members) in
                  let start : count s p after d ts rest ≤ kinds = subst (λ (n : ℕ). count s n after d ts rest ≤ kinds)
                  same
                  (starts s formed height proper kinds after d ts rest m.1 (all_below height kinds bound ts) f.2) in
                  omega arith)
            ])
      ]

pub few_below : (s : List KindView) (height : ℕ → ℕ) (kinds : ℕ) → AreOver s height → ((t : ℕ) → height t < kinds)
    → IsFormed s
    → (t : ℕ) (v : Tree) (p : ℕ) → Fits s t v → nodes_at s p (entries s t v) ≤ kinds + 1
few_below s height kinds proper bound formed t v p f =
    let all : FitAll s (item_part t ∷ []) (from_list (v ∷ [])) = root_fits s t v f in
    elim (solid_or_void s (item_part t)) [
      | inl m ↦ anywhere s formed height proper kinds bound p 0 1 (item_part t ∷ []) (from_list (v ∷ [])) (m, tt) all
      | inr e ↦ (let one = void_one s formed p 0 1 (item_part t ∷ []) (from_list (v ∷ [])) (item_part t, refl, e) all in
          omega arith)
    ]
