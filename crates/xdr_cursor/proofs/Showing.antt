-- What comes of a part that is owed.
use Rattle.std.proofs.Common.{◌≡◌, ℕ, ◌+◌, ◌<◌, ◌≤◌, ◌^◌, List, [], ◌∷◌, ◌++◌, length, take, drop, refl, sym, ap, subst}
use Rattle.std.proofs.Common.{◌∙◌, arith, zero, suc, replicate}
use Rattle.std.specs.Prelude.{Option, Some, None, MatchOption, Bool, true, false}
use Rattle.std.proofs.lemmas.List.{length-drop, take_at, drop_at, drop-drop}
use Rattle.xdr_units.specs.Numbers.{gap, word}
use Rattle.xdr_types.specs.Kinds as xdr
use Rattle.xdr_types.specs.Kinds.{KindView, Part, kind_at}
use Rattle.xdr_types.specs.Fits.{parts, item_part}
use Rattle.xdr_types.specs.Layout.{Entry, Role as LayoutRole, entry}
use Rattle.xdr_laws.specs.Owed.{Rest, Completes, lead_of, HasUnit, IsLengthFirst, IsSilent, silent_head}
use Rattle.xdr_laws.specs.Owed.{Accepts, flag}
use Rattle.xdr_laws.proofs.Counted.{reads_length}
use Rattle.xdr_stream.specs.Frames.{dues}
use Rattle.xdr_stream.specs.Steps.{IsStep}
use Rattle.xdr_stream.specs.declared.machine.step.Step.TheVariants.{Wide}
use Rattle.xdr_parts.specs.Lent.{size_in, role_in}
use Rattle.xdr_parts.specs.Private.Walking.{IsFree}
use Rattle.xdr_parts.specs.declared.part.Role.{Role}
use Rattle.xdr_parts.specs.declared.part.Role.TheVariants.{Number, Content, Group}
use Rattle.xdr_parts.proofs.Stepping.{Goes, ended, known, free_of, group_of, unit_there_of, accepted_of}
use Rattle.xdr_parts.proofs.Stepping.{leaf_of, open_of}
use Rattle.xdr_cursor.specs.Frames.{left_in}
use Rattle.xdr_cursor.specs.Private.Showing.{IsOwed, Moves, Follows, IsUnitShown, IsShown, IsShownNowhere}
use Rattle.xdr_cursor.specs.declared.frame.Frame.{Frame}
use Rattle.xdr_cursor.specs.declared.shown.Shown.{Shown}
use Rattle.xdr_cursor.specs.declared.shown.Shown.TheVariants.{Leaf, Open, Counted}

moves : (s : List KindView) (at : ℕ) (bytes : List ℕ) (es new : List Entry) (moved : ℕ) (fs : List (List Part))
    → Goes s at bytes es new moved fs → Moves s bytes at es new moved fs
moves s at bytes es new moved fs g =
    record { left = g.left; parted = g.parted; owes = g.owes; within = g.within }

-- optional data is one item or none (RFC 4506 section 4.19)
pub optional_parts : (s : List KindView) (item x : ℕ) → Accepts s (xdr.maybe item) x
    → parts (xdr.maybe item) (flag x) ≡ replicate x (item_part item)
optional_parts s item zero a = refl
optional_parts s item (suc zero) a = refl
optional_parts s item (suc (suc x)) a = absurd (omega arith)

module _ (s : List KindView) (place : ℕ) (bytes : List ℕ) (at : ℕ) (p : Part) (ps : List Part) (fs : List (List Part))
    (es : List Entry) (o : IsOwed s place bytes at p ps fs es) (k : KindView) (is : k ≡ kind_at s place) where
  abbrev D : ℕ
  D = length fs + 1

  same : k ≡ kind_at s p.kind
  same = is ∙ ap (λ (n : ℕ). kind_at s n) (sym o.kind)

  -- a kind of free bytes
  pub shows_free : (role : Role) (size : ℕ) → IsFree k role size → Follows s bytes at p ps fs es (Leaf role size)
  shows_free role size f = moves s at bytes es _ _ _
      (free_of s at bytes p ps fs es o.within o.owes k same role size f)

  -- a kind of no bytes
  pub shows_group : (inside : Frame) → IsSilent (lead_of k) → parts k (silent_head k) ≡ left_in s inside
      → Follows s bytes at p ps fs es (Open Group 0 inside)
  shows_group inside u same_parts = moves s at bytes es _ _ _
      (group_of s at bytes p ps fs es o.within o.owes k same (left_in s inside) u same_parts)

  -- and of no parts
  pub shows_nothing : k ≡ xdr.nothing → Follows s bytes at p ps fs es (Leaf Group 0)
  shows_nothing void =
      let silent : IsSilent (lead_of k) = subst (λ (f : KindView). IsSilent (lead_of f)) (sym void) tt in
      let none : parts k (silent_head k) ≡ [] =
      subst (λ (f : KindView). parts f (silent_head f) ≡ []) (sym void) refl in
      let g = group_of s at bytes p ps fs es o.within o.owes k same [] silent none in
      record {
        left = g.left;
        parted = g.parted;
        owes = ended s (at + 0) (ps ∷ fs) (drop (at + 0) bytes) g.left g.owes;
        within = g.within;
      }

  -- a kind that begins with a unit, which is there
  module _ (u : HasUnit (lead_of k)) (x : ℕ) (less : x < 2 ^ 32) (c : List ℕ) (e : drop at bytes ≡ word x ++ c) where
    unit : word x ≡ take 4 (drop at bytes)
    unit = sym (ap (λ (b : List ℕ). take 4 b) e ∙ take_at (word x) c 4 refl)

    there : at + 4 ≤ length bytes
    there = unit_there_of s at bytes p ps fs es o.within o.owes k same u

    accepted : Accepts s k x
    accepted = accepted_of s at bytes p ps fs es o.within o.owes k same x u less unit

    leaf_shown : (role : Role) → IsUnitShown s k x (Leaf role 4) → Follows s bytes at p ps fs es (Leaf role 4)
    leaf_shown role i =
        let g = leaf_of s at bytes p ps fs es o.within o.owes k same x i.0 accepted unit there (i.4 accepted) in
        let sized = subst (λ (n : ℕ). Goes s at bytes es (entry at n D p (role_in role 4) ∷ []) 4 (ps ∷ fs)) (sym i.2)
        (subst (λ (r : LayoutRole). Goes s at bytes es (entry at 4 D p r ∷ []) 4 (ps ∷ fs)) (sym i.3) g) in
        moves s at bytes es _ _ _ sized

    open_shown : (role : Role) (inside : Frame) → IsUnitShown s k x (Open role 4 inside)
        → Follows s bytes at p ps fs es (Open role 4 inside)
    open_shown role inside i =
        let g = open_of s at bytes p ps fs es o.within o.owes k same x (left_in s inside) i.0 accepted unit there
        (i.4 accepted) in
        let sized = subst (λ (n : ℕ). Goes s at bytes es (entry at n D p (role_in role 4) ∷ []) 4
        (left_in s inside ∷ ps ∷ fs)) (sym i.2)
        (subst (λ (r : LayoutRole). Goes s at bytes es (entry at 4 D p r ∷ []) 4 (left_in s inside ∷ ps ∷ fs)) (sym i.3)
        g) in
        moves s at bytes es _ _ _ sized

    counted_shown : IsLengthFirst (lead_of k) → Follows s bytes at p ps fs es (Counted x)
    counted_shown v =
        let first : IsLengthFirst (lead_of (kind_at s p.kind)) =
        subst (λ (f : KindView). IsLengthFirst (lead_of f)) same v in
        let fits : Accepts s (kind_at s p.kind) x = subst (λ (f : KindView). Accepts s f x) same accepted in
        let begun : Completes s at (dues ((p ∷ ps) ∷ fs)) (word x ++ c) es =
        subst (λ (b : List ℕ). Completes s at (dues ((p ∷ ps) ∷ fs)) b es) e o.owes in
        let i = (reads_length s at D p ps (dues fs) x first fits).into c es begun in
        let behind : drop (at + 4) bytes ≡ c =
        sym (drop-drop 4 at bytes) ∙ ap (λ (b : List ℕ). drop 4 b) e ∙ drop_at (word x) c 4 refl in
        record {
          left = i.0;
          parted = i.1;
          owes = subst (λ (b : List ℕ). Completes s (at + 4) (Rest x ∷ dues (ps ∷ fs)) b i.0) (sym behind) i.2;
        }

    pub shows_unit : (sh : Shown) → IsUnitShown s k x sh → Follows s bytes at p ps fs es sh
    shows_unit (Leaf role size) i =
        subst (λ (n : ℕ). Follows s bytes at p ps fs es (Leaf role n)) (sym i.1)
        (leaf_shown role (i.0, refl, i.2, i.3, i.4))
    shows_unit (Open role size inside) i =
        subst (λ (n : ℕ). Follows s bytes at p ps fs es (Open role n inside)) (sym i.1)
        (open_shown role inside (i.0, refl, i.2, i.3, i.4))
    shows_unit (Counted n) i =
        subst (λ (m : ℕ). Follows s bytes at p ps fs es (Counted m)) (sym i.1) (counted_shown i.0)

  -- a unit that a kind begins with is there
  pub has_unit : HasUnit (lead_of k) → at + 4 ≤ length bytes
  has_unit u = unit_there_of s at bytes p ps fs es o.within o.owes k same u

-- a hyper integer is eight bytes, whatever they are
pub wide_free : (k : KindView) (b : Bool) → IsStep k (Wide b) → IsFree k Number 8
wide_free k true e = subst (λ (f : KindView). IsFree f Number 8) (sym e) refl
wide_free k false e = subst (λ (f : KindView). IsFree f Number 8) (sym e) refl

-- and fixed content so many
pub content_free : (k : KindView) (size : ℕ) → k ≡ xdr.opaque size → IsFree k Content size
content_free k size e = subst (λ (f : KindView). IsFree f Content size) (sym e) refl

-- what is told of free bytes, where they are there or not
pub free_shown : (s : List KindView) (place : ℕ) (bytes : List ℕ) (at : ℕ) (k : KindView) → k ≡ kind_at s place
    → (role : Role) (size : ℕ) → IsFree k role size → (rest : List ℕ) → rest ≡ drop at bytes → (r : Option Shown)
    → MatchOption r (length rest < size + gap size)
    (λ (x : Shown). (x ≡ Leaf role size) × (size + gap size ≤ length rest))
    → MatchOption r (IsShownNowhere s place bytes at) (IsShown s place bytes at)
free_shown s place bytes at k is role size f rest e None less =
    λ p ps fs es o.
    let m : Moves s bytes at es (entry at (size_in role size) (length fs + 1) p (role_in role size) ∷ [])
    (size + gap size) (ps ∷ fs) = shows_free s place bytes at p ps fs es o k is role size f in
    let few : length rest < size + gap size = less in
    absurd (omega (arith, m.within, few, ap (λ (l : List ℕ). length l) e, length-drop at bytes))
free_shown s place bytes at k is role size f rest e (Some x) some =
    λ p ps fs es o.
    subst (λ (y : Shown). Follows s bytes at p ps fs es y) (sym some.0)
    (shows_free s place bytes at p ps fs es o k is role size f)

-- the kind is one of the list
pub has_kind : (s : List KindView) (place : ℕ) (bytes : List ℕ) (at : ℕ) (p : Part) (ps : List Part)
    (fs : List (List Part)) (es : List Entry) → IsOwed s place bytes at p ps fs es → place < length s
has_kind s place bytes at p ps fs es o =
    let less : p.kind < length s = known s at bytes p ps fs es o.within o.owes in
    subst (λ (n : ℕ). n < length s) o.kind less
