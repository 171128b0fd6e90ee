-- What is due before any byte, and the outcome of no bytes.
use Rattle.std.proofs.Common.{◌≡◌, ℕ, zero, suc, ◌+◌, ◌<◌, ◌≤◌, ◌&&◌, List, [], ◌∷◌, ◌++◌, ◌∙◌, length, refl, sym, ap}
use Rattle.std.proofs.Common.{subst, arith, inl, inr}
use Rattle.std.specs.Prelude.{◌⊎◌}
use Rattle.std.specs.List.{AllByRecursion}
use Rattle.xdr_types.specs.Kinds as xdr
use Rattle.xdr_types.specs.Kinds.{KindView, Part, kind_at}
use Rattle.xdr_types.specs.Tree as value
use Rattle.xdr_types.specs.Fits.{Fits, fit, is_legal, parts, item_part}
use Rattle.xdr_types.specs.Spelling.{own, spelling, bytes_of}
use Rattle.xdr_types.specs.Within.{Bounds}
use Rattle.xdr_types.specs.Laws.{EachKindHasAValue, EachPartIsKnown}
use Rattle.xdr_types.specs.Outcome.{Outcome, Pending, Whole, TooDeep}
use Rattle.xdr_laws.specs.Owed.{lead_of, HasUnit, IsSilent, IsFreeBytes, free_size, silent_head, IsSolid}
use Rattle.xdr_laws.proofs.Events.{outcome_pending}
use Rattle.xdr_laws.proofs.Nodes.{IsFormedKind}
use Rattle.xdr_stream.specs.Frames.{dues, Begins, rest_of}
use Rattle.xdr_stream.specs.Sees.{Reading}
use Rattle.xdr_stream.proofs.Heights.{IsDue}
use Rattle.xdr_stream.proofs.Reading.{reading_start, reading_silent, reading_close, reading_free}
use Rattle.xdr_stream.proofs.UnitRead.{still_due, still_rest}
use Rattle.xdr_stream.proofs.UnitRead.{ends_deep, ends_whole}

-- a unit is needed where a part of the kind is due
abbrev NeedsUnit : KindView → Type 0
NeedsUnit k = HasUnit (lead_of k) ⊎ (IsFreeBytes (lead_of k) × (0 < free_size k))

needs_unit : (s : List KindView) (k : KindView) → IsSolid k → IsFormedKind s k
    → (IsSilent (lead_of k) → parts k (silent_head k) ≡ []) → NeedsUnit k
needs_unit s xdr.nothing solid formed none = absurd solid
needs_unit s (xdr.structure fields) solid formed none =
    absurd (omega (arith, formed.0, ap (λ (ps : List Part). length ps) (none tt)))
needs_unit s (xdr.fixed item size) solid formed none = absurd (no_items size formed.0 (none tt))
  where
    no_items : (n : ℕ) → 0 < n → parts (xdr.fixed item n) (value.items n) ≡ [] → ⊥
    no_items zero some e = absurd (omega (arith, some))
    no_items (suc n) some e = cc
needs_unit s (xdr.opaque size) solid formed none = inr (tt, formed)
needs_unit s xdr.hyper solid formed none = inr (tt, omega arith)
needs_unit s xdr.unsigned_hyper solid formed none = inr (tt, omega arith)
needs_unit s _ solid formed none = inl tt

-- the first part of a node that begins without a byte is none of void kind
pub solid_first : (s : List KindView) (k : KindView) (place : ℕ) → IsSolid k → IsFormedKind s k → IsSilent (lead_of k)
    → Begins (parts k (silent_head k)) place → IsSolid (kind_at s place)
solid_first s (xdr.structure []) place solid formed silent b = absurd (omega (arith, formed.0))
solid_first s (xdr.structure (p ∷ ps)) place solid formed silent b =
    subst (λ (n : ℕ). IsSolid (kind_at s n)) (ap (λ (qs : List Part). first_kind qs) b.1 ∙ b.2)
    formed.1.0
  where
    first_kind : List Part → ℕ
    first_kind [] = 0
    first_kind (q ∷ qs) = q.kind
solid_first s (xdr.fixed item zero) place solid formed silent b = absurd (omega (arith, formed.0))
solid_first s (xdr.fixed item (suc n)) place solid formed silent b =
    subst (λ (n : ℕ). IsSolid (kind_at s n)) (ap (λ (qs : List Part). first_kind qs) b.1 ∙ b.2)
    formed.1
  where
    first_kind : List Part → ℕ
    first_kind [] = 0
    first_kind (q ∷ qs) = q.kind
solid_first s xdr.nothing place solid formed silent b = absurd solid
solid_first s _ place solid formed silent b = absurd silent

module _ (s : List KindView) (t : ℕ) (l : Bounds) where
  -- the root
  pub due_root : EachKindHasAValue s → t < length s → IsDue s t l t 1
  due_root has known = (item_part t, [], [], reading_start s t l has known, refl, refl)

  -- the first part of a node that begins without a byte
  pub due_first : (place depth next : ℕ) → depth ≤ l.depth → IsSilent (lead_of (kind_at s place))
      → Begins (parts (kind_at s place) (silent_head (kind_at s place))) next → IsDue s t l place depth
      → IsDue s t l next (depth + 1)
  due_first place depth next deep silent b d =
      let p : Part = d.0 in
      let at : kind_at s p.kind ≡ kind_at s place = ap (λ (n : ℕ). kind_at s n) d.4 in
      let read = reading_silent s t l p d.1 d.2 [] (subst (λ (k : KindView). IsSilent (lead_of k)) (sym at) silent)
      (omega (arith, d.5)) d.3 in
      let there : Reading s t l (dues (parts (kind_at s place) (silent_head (kind_at s place)) ∷ d.1 ∷ d.2)) [] =
      subst (λ (k : KindView). Reading s t l (dues (parts k (silent_head k) ∷ d.1 ∷ d.2)) []) at read in (
        b.0,
        rest_of (parts (kind_at s place) (silent_head (kind_at s place))),
        d.1 ∷ d.2,
        subst (λ (ps : List Part). Reading s t l (dues (ps ∷ d.1 ∷ d.2)) []) b.1 there,
        b.2,
        omega (arith, d.5),
      )

  -- it is a kind of the list, and none of void kind
  pub known_first : (place next : ℕ) → EachPartIsKnown s → place < length s
      → Begins (parts (kind_at s place) (silent_head (kind_at s place))) next → next < length s
  known_first place next each known b =
      subst (λ (n : ℕ). n < length s) b.2
      (subst (λ (ps : List Part). AllByRecursion (λ (p : Part). p.kind < length s) ps) b.1
      (each place (silent_head (kind_at s place)) known)).0

  -- a node that is due lies too deep
  pub due_deep : (place depth : ℕ) → l.depth < depth → IsDue s t l place depth → Outcome s t l [] (TooDeep 0)
  due_deep place depth deep d = ends_deep s t l d.0 d.1 d.2 [] [] (omega (arith, d.5)) d.3

  -- a unit is needed
  pub due_pending : (place depth : ℕ) → depth ≤ l.depth → 0 < l.bytes → IsSolid (kind_at s place)
      → IsFormedKind s (kind_at s place)
      → (IsSilent (lead_of (kind_at s place)) → parts (kind_at s place) (silent_head (kind_at s place)) ≡ [])
      → IsDue s t l place depth → Outcome s t l [] Pending
  due_pending place depth shallow some solid formed none d =
      let at : kind_at s place ≡ kind_at s d.0.kind = ap (λ (n : ℕ). kind_at s n) (sym d.4) in
      by_lead (subst (λ (k : KindView). NeedsUnit k) at (needs_unit s (kind_at s place) solid formed none))
    where
      by_lead : NeedsUnit (kind_at s d.0.kind) → Outcome s t l [] Pending
      by_lead (inl unit) =
          let w = still_due s t l d.0 d.1 d.2 [] unit (omega (arith, d.5)) d.3 in
          outcome_pending s t l [] [] (d.3.reached []) w.0 w.1 (λ e. absurd (omega (arith, e, some))) (omega arith)
      by_lead (inr free) =
          let read = reading_free s t l d.0 d.1 d.2 [] free.0 (omega (arith, d.5)) d.3 in
          let w = still_rest s t l (free_size (kind_at s d.0.kind)) (d.1 ∷ d.2) [] free.1 read in
          outcome_pending s t l [] [] (read.reached []) w.0 w.1 (λ e. absurd (omega (arith, e, some))) (omega arith)

  -- a void root is whole
  pub void_whole : EachKindHasAValue s → t < length s → kind_at s t ≡ xdr.nothing → 1 ≤ l.depth
      → Outcome s t l [] (Whole (value.nothing, value.none) 0)
  void_whole has known is deep =
      let begun = reading_silent s t l (item_part t) [] [] []
      (subst (λ (k : KindView). IsSilent (lead_of k)) (sym is) tt)
      (omega (arith, deep)) (reading_start s t l has known) in
      let there : Reading s t l (dues ([] ∷ [] ∷ [])) [] =
      subst (λ (k : KindView). Reading s t l (dues (parts k (silent_head k) ∷ [] ∷ [])) []) is begun in
      let done = reading_close s t l [] [] (reading_close s t l ([] ∷ []) [] there) in
      ends_whole s t l [] [] (value.nothing, value.none) fitting spelled done
    where
      fitting : Fits s t (value.nothing, value.none)
      fitting = ap (λ (k : KindView). is_legal s k value.nothing && fit s (parts k value.nothing) value.none) is

      spelled : bytes_of s t (value.nothing, value.none) ≡ []
      spelled = ap (λ (k : KindView). own k value.nothing ++ spelling s (parts k value.nothing) value.none) is
