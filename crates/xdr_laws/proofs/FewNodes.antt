-- A well formed and sound schema has few nodes at one place.
use Rattle.std.proofs.Common.{◌≡◌, ℕ, zero, suc, ◌+◌, ◌<◌, ◌≤◌, ◌==◌, false, List, [], ◌∷◌, length, Some, None}
use Rattle.std.proofs.Common.{refl, sym, subst, arith, inl, inr}
use Rattle.std.specs.Prelude.{◌*◌}
use Rattle.std.specs.List.{list_any, AllByRecursion}
use Rattle.std.proofs.lemmas.Bool.{cases_lt, false≢true}
use Rattle.std.proofs.lemmas.List.{get_or_past}
use Rattle.xdr_types.specs.Kinds as xdr
use Rattle.xdr_types.specs.Kinds.{KindView, Part, kind_at, Lists}
use Rattle.xdr_types.specs.Tree as value
use Rattle.xdr_types.specs.Tree.{Head, Tree, from_list}
use Rattle.xdr_types.specs.Fits.{Fits, parts, item_part}
use Rattle.xdr_types.specs.Layout.{entries}
use Rattle.xdr_types.specs.Sound.{Heighting, IsProper, IsSound}
use Rattle.xdr_types.specs.Height.{height_within, IsHigher}
use Rattle.xdr_types.specs.Faults.{is_none, is_void, is_nothing, has_unknown, is_zero_size, has_void, has_bad_tag}
use Rattle.xdr_types.specs.Faults.{has_case_twice, has_illegal_case, has_empty_list, kind_flaw, IsWellFormed}
use Rattle.xdr_types.specs.Laws.{EachPartIsKnown}
use Rattle.xdr_types.specs.declared.fault.Flaw.TheVariants as flaw
use Rattle.xdr_types.proofs.Inhabited.{or-false, if-none}
use Rattle.xdr_types.proofs.Known.{all_known}
use Rattle.xdr_laws.specs.Owed.{IsSolid}
use Rattle.xdr_laws.specs.Parts.{up_to, nodes_at, nodes}
use Rattle.xdr_laws.specs.Laws.{FewAtOnePlace, HeldBounds}
use Rattle.xdr_laws.proofs.SameParts.{parts_units}
use Rattle.xdr_laws.proofs.Bounded.{nodes_bound, content_bound}
use Rattle.xdr_types.proofs.Higher.{higher-at}
use Rattle.xdr_laws.proofs.Nodes.{AreMembers, IsFormedKind, IsFormed, Over, AreOver, IsClosed, count}
use Rattle.xdr_laws.proofs.Squeezed.{few_of}

not_zero : (n : ℕ) → (n == 0) ≡ false → 0 < n
not_zero n h = grind arith

is_solid : (f : KindView) → is_nothing f ≡ false → IsSolid f
is_solid xdr.nothing e = absurd (false≢true (sym e))
is_solid _ e = tt

solid_fields : (s : List KindView) (ps : List Part) → list_any (λ (p : Part). is_void s p.kind) ps ≡ false
    → AreMembers s ps
solid_fields s [] e = tt
solid_fields s (p ∷ ps) e =
    let c = or-false (is_void s p.kind) (list_any (λ (p : Part). is_void s p.kind) ps) e in
    (is_solid (kind_at s p.kind) c.0, solid_fields s ps c.1)

some_fields : (ps : List Part) → is_none ps ≡ false → 0 < length ps
some_fields [] e = absurd (false≢true (sym e))
some_fields (p ∷ ps) e = omega arith

formed_kind : (s : List KindView) (f : KindView) → is_zero_size f ≡ false → has_void s f ≡ false
    → has_empty_list f ≡ false
    → IsFormedKind s f
formed_kind s (xdr.opaque size) a b c = not_zero size a
formed_kind s (xdr.fixed item size) a b c = (not_zero size a, is_solid (kind_at s item) b)
formed_kind s (xdr.up_to item max) a b c = is_solid (kind_at s item) b
formed_kind s (xdr.structure ps) a b c = (some_fields ps c, solid_fields s ps b)
formed_kind s (xdr.maybe item) a b c = is_solid (kind_at s item) b
formed_kind s _ a b c = tt

no_flaw : (s : List KindView) (f : KindView) → kind_flaw s f ≡ None → IsFormedKind s f
no_flaw s f e =
    let e1 = (if-none (has_unknown s f) flaw.UnknownKind _ e).1 in
    let e2 = if-none (is_zero_size f) flaw.ZeroSize _ e1 in
    let e3 = if-none (has_void s f) flaw.VoidMember _ e2.1 in
    let e4 = (if-none (has_bad_tag s f) flaw.BadDiscriminant _ e3.1).1 in
    let e5 = (if-none (has_case_twice f) flaw.CaseTwice _ e4).1 in
    let e6 = (if-none (has_illegal_case s f) flaw.CaseNotLegal _ e5).1 in
    let e7 = if-none (has_empty_list f) flaw.EmptyList _ e6 in
    formed_kind s f e2.0 e3.0 e7.0

pub formed_of : (s : Lists) → IsWellFormed s → IsFormed s.kinds
formed_of s well t = elim (cases_lt t (length s.kinds)) [
  | inl known ↦ no_flaw s.kinds (kind_at s.kinds t) (well.kinds t known)
  | inr past ↦ subst (λ (f : KindView). IsFormedKind s.kinds f) (sym (get_or_past s.kinds t xdr.unknown past)) tt
]

closed_kind : (s : List KindView) (f : KindView)
    → ((h : Head) → AllByRecursion (λ (p : Part). p.kind < length s) (parts f h))
    → Over (λ part. part < length s) f
closed_kind s (xdr.fixed item size) all = (all (value.items 1)).0
closed_kind s (xdr.structure ps) all = all value.fields
closed_kind s _ all = tt

closed_of : (s : List KindView) → EachPartIsKnown s → IsClosed s
closed_of s each t = elim (cases_lt t (length s)) [
  | inl known ↦ closed_kind s (kind_at s t) (λ h. each t h known)
  | inr past ↦ subst (λ (f : KindView). Over (λ part. part < length s) f) (sym (get_or_past s t xdr.unknown past)) tt
]

-- numbers of some proper heighting, all below one
record IsNumbered (s : List KindView) (place top : ℕ) : Type 0 where
  pub heights : Heighting
  pub number : ℕ
  pub proper : IsProper s heights
  pub given : heights place ≡ Some number
  pub low : number < top

tops : (s : List KindView) → IsSound s → (n : ℕ) → n ≤ length s
    → (top : ℕ) × ((place : ℕ) → place < n → IsNumbered s place top)
tops s sound zero within = (0, λ place h. absurd (omega arith))
tops s sound (suc n) within =
    let more = tops s sound n (omega arith) in
    let own_height = sound n (omega arith) in
    let top : ℕ = more.0 + (own_height.1 + 1) in (
      top,
      λ place h. elim (cases_lt place n) [
        | inl less ↦ (let m = more.1 place less in record
            { heights = m.heights; number = m.number; proper = m.proper; given = m.given; low = omega (arith, m.low) })
        | inr last ↦
            (let same : n ≡ place = omega arith in
            record {
              heights = own_height.0;
              number = own_height.1;
              proper = own_height.2;
              given = subst
                  (λ (x : ℕ). own_height.0 x ≡ Some own_height.1) same own_height.3;
              low = omega arith;
            })
      ],
    )

over_of : (height : ℕ → ℕ) (f : KindView) (top : ℕ) → IsHigher height f top → Over (λ part. height part < top) f
over_of height (xdr.structure ps) top h = h
over_of height (xdr.fixed item size) top h = h
over_of height _ top h = tt

over_all : (s : List KindView) → IsSound s → (height : ℕ → ℕ) × AreOver s height
over_all s sound =
    let t = tops s sound (length s) (omega arith) in
    let height : ℕ → ℕ = height_within s t.0 in (
      height,
      λ place. elim (cases_lt place (length s)) [
        | inl known ↦ (let m = t.1 place known in over_of height (kind_at s place) (height place)
            (higher-at s m.heights m.proper t.0 place m.number m.given m.low))
        | inr past ↦ subst (λ (f : KindView). Over (λ part. height part < height place) f)
            (sym (get_or_past s place xdr.unknown past)) tt
      ],
    )

pub few_at_one_place : (s : Lists) → IsWellFormed s → IsSound s.kinds → FewAtOnePlace s.kinds
few_at_one_place s well sound =
    let h = over_all s.kinds sound in
    few_of s.kinds h.0 h.1 (closed_of s.kinds (all_known s well)) (formed_of s well)

pub held_bounds : (s : Lists) → IsWellFormed s → IsSound s.kinds → HeldBounds s.kinds
held_bounds s well sound t q u count bytes len h =
    let kinds : List KindView = s.kinds in
    let v : Tree = h.value in
    let f : Fits kinds t v = h.begins.0 in
    let few : (p : ℕ) → nodes_at kinds p (entries kinds t v) ≤ length kinds + 1 = λ p. few_at_one_place s well sound t v
    p f in
    let most = nodes_bound kinds (length kinds + 1) (entries kinds t v)
    (parts_units kinds 0 1 (item_part t ∷ []) (from_list (v ∷ [])) refl) few u in
    let here_all : nodes kinds (up_to (length q) (entries kinds t v)) ≤ (length kinds + 1) * (u + 1) =
    subst (λ (n : ℕ). nodes kinds (up_to n (entries kinds t v)) ≤ (length kinds + 1) * (u + 1)) (sym len) most in
    let content = content_bound kinds t (length q) v f in (
      subst (λ (n : ℕ). n ≤ (length kinds + 1) * (u + 1)) (sym h.nodes) here_all,
      subst (λ (n : ℕ). n ≤ length q)
          (sym h.content) content,
    )
