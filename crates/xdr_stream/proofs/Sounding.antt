-- Which parts the nodes at work may have, as reading goes on.
use Rattle.std.proofs.Common.{◌≡◌, ℕ, zero, suc, ◌<◌, List, [], ◌∷◌, ◌++◌, length, sym, ap, subst, ◌∙◌, arith}
use Rattle.std.proofs.Common.{replicate}
use Rattle.std.specs.Prelude.{Option, Some, None}
use Rattle.std.specs.List.{AllByRecursion}
use Rattle.xdr_types.specs.Kinds as xdr
use Rattle.xdr_types.specs.Kinds.{KindView, Part, kind_at}
use Rattle.xdr_types.specs.Tree as value
use Rattle.xdr_types.specs.Tree.{Head}
use Rattle.xdr_types.specs.Fits.{parts, item_part, optional_part, part_of}
use Rattle.xdr_types.specs.Laws.{EachPartIsKnown}
use Rattle.xdr_laws.specs.Owed.{lead_of, IsUnitFirst, HasUnit, IsSolid}
use Rattle.xdr_laws.proofs.Nodes.{IsFormedKind, AreMembers}
use Rattle.xdr_stream.specs.Frames.{left_of, rest_of, Begins, onto, stack_of}
use Rattle.xdr_stream.specs.Private.Sound.{AreSolid, AreAllSolid, AreKnown, IsSound, HasNext, Starts}
use Rattle.xdr_stream.specs.declared.machine.frame.Frame.{Frame}
use Rattle.xdr_stream.proofs.Frames.{onto_last}

no_parts : (p : Part) → [] ≡ p ∷ rest_of [] → ⊥
no_parts p e = cc

no_parts_too : (p : Part) (ps : List Part) → p ∷ ps ≡ [] → ⊥
no_parts_too p ps e = cc

first_kind : List Part → ℕ
first_kind [] = 0
first_kind (q ∷ qs) = q.kind

first_place : (p : Part) (ps : List Part) (place : ℕ) → Begins (p ∷ ps) place → p.kind ≡ place
unfolding first_kind
first_place p ps place b = ap (λ (qs : List Part). first_kind qs) b.1 ∙ b.2

module _ (s : List KindView) where
  pub solid_known : (ps : List Part) → AreSolid s ps → AreKnown s ps
  solid_known [] h = tt
  solid_known (p ∷ []) h = h.0.0
  solid_known (p ∷ q ∷ ps) h = h

  pub solid_sound : (fs : List (List Part)) → AreAllSolid s fs → IsSound s fs
  solid_sound [] h = tt
  solid_sound (ps ∷ fs) h = (solid_known ps h.0, h.1)

  pub solid_rest : (ps : List Part) → AreSolid s ps → AreSolid s (rest_of ps)
  solid_rest [] h = tt
  solid_rest (p ∷ ps) h = h.1

  -- what is left after a part that is begun is solid
  pub known_rest : (ps : List Part) → AreKnown s ps → AreSolid s (rest_of ps)
  known_rest [] h = tt
  known_rest (p ∷ []) h = tt
  known_rest (p ∷ q ∷ ps) h = h.1

  pub first_known : (ps : List Part) (place : ℕ) → AreKnown s ps → Begins ps place → place < length s
  first_known [] place h b = absurd (no_parts b.0 b.1)
  first_known (p ∷ []) place h b = subst (λ (n : ℕ). n < length s) (first_place p [] place b) h
  first_known (p ∷ q ∷ ps) place h b = subst (λ (n : ℕ). n < length s) (first_place p (q ∷ ps) place b) h.0.0

  pub first_solid : (ps : List Part) (place : ℕ) → AreSolid s ps → Begins ps place → IsSolid (kind_at s place)
  first_solid [] place h b = absurd (no_parts b.0 b.1)
  first_solid (p ∷ ps) place h b = subst (λ (n : ℕ). IsSolid (kind_at s n)) (first_place p ps place b) h.0.1

  -- where the first is not void, all are solid
  pub known_solid : (ps : List Part) (place : ℕ) → AreKnown s ps → Begins ps place → IsSolid (kind_at s place)
      → AreSolid s ps
  known_solid [] place h b solid = tt
  known_solid (p ∷ []) place h b solid =
      ((h, subst (λ (n : ℕ). IsSolid (kind_at s n)) (sym (first_place p [] place b)) solid), tt)
  known_solid (p ∷ q ∷ ps) place h b solid = h

  pub first_starts : (ps : List Part) (place : ℕ) → Starts s ps → Begins ps place → HasUnit (lead_of (kind_at s place))
  first_starts [] place h b = absurd h
  first_starts (p ∷ ps) place h b = subst (λ (n : ℕ). HasUnit (lead_of (kind_at s n))) (first_place p ps place b) h

  pub starts_first : (ps : List Part) (place : ℕ) → HasUnit (lead_of (kind_at s place)) → Begins ps place → Starts s ps
  starts_first [] place h b = absurd (no_parts b.0 b.1)
  starts_first (p ∷ ps) place h b =
      subst (λ (n : ℕ). HasUnit (lead_of (kind_at s n))) (sym (first_place p ps place b)) h

  -- ---- the stack of the code

  pub stack_popped : (work f : Frame) (parents rest : List Frame) → parents ≡ rest ++ f ∷ []
      → AreAllSolid s (stack_of work parents) → AreSolid s (left_of work) × AreAllSolid s (stack_of f rest)
  stack_popped work f parents rest last h = (
    h.0,
    subst (λ (fs : List (List Part)). AreAllSolid s fs)
        (ap (λ (fs : List Frame). onto [] fs) last ∙ onto_last [] rest f) h.1,
  )

  -- ---- the parts of a node that has begun

  pub solid_members : (ps : List Part) → AllByRecursion (λ (p : Part). p.kind < length s) ps → AreMembers s ps
      → AreSolid s ps
  solid_members [] known solid = tt
  solid_members (p ∷ ps) known solid =
      ((known.0, solid.0), solid_members ps known.1 solid.1)

  pub solid_items : (item n : ℕ) → item < length s → IsSolid (kind_at s item)
      → AreSolid s (replicate n (item_part item))
  solid_items item zero known solid = tt
  solid_items item (suc n) known solid = ((known, solid), solid_items item n known solid)

  optional_known : (o : Option Part) → AllByRecursion (λ (p : Part). p.kind < length s) (optional_part o)
      → AreKnown s (optional_part o)
  optional_known None all = tt
  optional_known (Some p) all = all.0

  -- the parts under a head that a unit makes
  pub made_known : (k : KindView) (h : Head)
      → ((g : Head) → AllByRecursion (λ (p : Part). p.kind < length s) (parts k g)) → IsFormedKind s k
      → IsUnitFirst (lead_of k) → AreKnown s (parts k h)
  made_known (xdr.up_to item max) (value.items n) all formed u =
      solid_known (replicate n (item_part item))
      (solid_items item n (all (value.items 1)).0 formed)
  made_known (xdr.choice tag arms other) (value.tag z) all formed u =
      optional_known (part_of arms other z) (all (value.tag z))
  made_known (xdr.maybe item) value.present all formed u = (all value.present).0
  made_known (xdr.structure ps) value.fields all formed u = absurd u
  made_known (xdr.fixed item size) (value.items n) all formed u = absurd u
  made_known _ _ all formed u = tt

pub has_items : (item n : ℕ) → 0 < n → HasNext (replicate n (item_part item))
has_items item zero some = absurd (omega (arith, some))
has_items item (suc n) some = tt

pub has_members : (ps : List Part) → 0 < length ps → HasNext ps
has_members [] some = absurd (omega (arith, some))
has_members (p ∷ ps) some = tt

pub has_first : (ps : List Part) (place : ℕ) → Begins ps place → HasNext ps
has_first [] place b = absurd (no_parts b.0 b.1)
has_first (p ∷ ps) place b = tt

pub has_not_none : (ps : List Part) → HasNext ps → ps ≡ [] → ⊥
has_not_none [] h e = h
has_not_none (p ∷ ps) h e = no_parts_too p ps e

-- ---- a node that begins without a byte

pub fields_solid : (s : List KindView) (place : ℕ) (ps : List Part) → EachPartIsKnown s → place < length s
    → IsFormedKind s (kind_at s place) → xdr.structure ps ≡ kind_at s place → AreSolid s ps × HasNext ps
fields_solid s place ps known within formed is =
    let f : IsFormedKind s (xdr.structure ps) = subst (λ (k : KindView). IsFormedKind s k) (sym is) formed in
    let all : AllByRecursion (λ (p : Part). p.kind < length s) (parts (xdr.structure ps) value.fields) =
    subst (λ (k : KindView). AllByRecursion (λ (p : Part). p.kind < length s) (parts k value.fields)) (sym is)
    (known place value.fields within) in (solid_members s ps all f.1, has_members ps f.0)

pub items_solid : (s : List KindView) (place item size : ℕ) → EachPartIsKnown s → place < length s
    → IsFormedKind s (kind_at s place) → xdr.fixed item size ≡ kind_at s place
    → AreSolid s (replicate size (item_part item)) × HasNext (replicate size (item_part item))
items_solid s place item size known within formed is =
    let f : IsFormedKind s (xdr.fixed item size) = subst (λ (k : KindView). IsFormedKind s k) (sym is) formed in
    let all : AllByRecursion (λ (p : Part). p.kind < length s) (parts (xdr.fixed item size) (value.items 1)) =
    subst (λ (k : KindView). AllByRecursion (λ (p : Part). p.kind < length s) (parts k (value.items 1))) (sym is)
    (known place (value.items 1) within) in (
      solid_items s item size all.0 f.1,
      has_items item size f.0,
    )
