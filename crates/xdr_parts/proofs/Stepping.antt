-- What a walk over a value's bytes does to the parts that are owed.
use Rattle.std.proofs.Common.{◌≡◌, ℕ, zero, suc, ◌+◌, ◌^◌, ◌<◌, ◌≤◌, List, [], ◌∷◌, ◌++◌, length}
use Rattle.std.proofs.Common.{take, drop, refl, sym, ap, subst, ◌∙◌, append_assoc, arith}
use Rattle.std.proofs.lemmas.List.{length-append, length-drop, length-replicate, drop_at, drop-drop, take-append-drop}
use Rattle.std.proofs.Math.Nat.{add-zero}
use Rattle.xdr_types.specs.Kinds as xdr
use Rattle.xdr_types.specs.Kinds.{KindView, Part, kind_at}
use Rattle.xdr_types.specs.Tree as value
use Rattle.xdr_types.specs.Tree.{Head}
use Rattle.xdr_types.specs.Fits.{parts}
use Rattle.xdr_types.specs.Spelling.{own}
use Rattle.xdr_types.specs.Layout.{Entry, entry, shown, shown_bytes, shown_items, of_number, of_length}
use Rattle.xdr_types.specs.Layout.{of_group}
use Rattle.xdr_units.specs.Numbers.{pad, gap, word}
use Rattle.xdr_laws.specs.Owed.{Frame, Rest, Completes, Lead, UnitFirst, LengthFirst, FreeBytes, Silent, lead_of}
use Rattle.xdr_laws.specs.Owed.{HasUnit, IsUnitFirst, IsLengthFirst, IsFreeBytes, IsSilent, free_size, silent_head}
use Rattle.xdr_laws.specs.Owed.{Accepts, head_of, role_of}
use Rattle.xdr_laws.specs.Begun.{first}
use Rattle.xdr_laws.proofs.Owed.{begin_into, reads_end}
use Rattle.xdr_laws.proofs.UnitOwed.{reads_silent, reads_unit, refuses_unit}
use Rattle.xdr_laws.proofs.Content.{free_parts, reads_free}
use Rattle.xdr_laws.proofs.Counted.{counted, reads_length, refuses_length}
use Rattle.xdr_laws.proofs.Known.{shows_first}
use Rattle.xdr_laws.proofs.GoesOn.{legal_known}
use Rattle.xdr_stream.specs.Frames.{dues}
use Rattle.xdr_parts.specs.Private.Walking.{AreLow, IsFree}
use Rattle.xdr_parts.specs.Lent.{size_in, role_in}
use Rattle.xdr_parts.specs.declared.part.Role.{Role}
use Rattle.xdr_parts.proofs.Alone.{IsUnitAs, free_as}

-- ---- bytes behind a place

-- the bytes behind a stretch are the rest
drop_behind : (bytes q c : List ℕ) (at n : ℕ) → drop at bytes ≡ q ++ c → length q ≡ n → drop (at + n) bytes ≡ c
drop_behind bytes q c at n e len = sym (drop-drop n at bytes) ∙ ap (λ (l : List ℕ). drop n l) e ∙ drop_at q c n len

-- there are as many bytes as a stretch has
there : (bytes q : List ℕ) (at n : ℕ) → drop at bytes ≡ q → n ≤ length q → at ≤ length bytes → at + n ≤ length bytes
there bytes q at n e most within = omega (arith, length-drop at bytes, ap (λ (l : List ℕ). length l) e)

pub pad_length : (n : ℕ) → length (pad n) ≡ gap n
pad_length n = length-replicate (gap n) 0

-- ---- what is owed

-- the parts es begin with these, and the others are owed so many bytes on
pub record Goes (s : List KindView) (at : ℕ) (bytes : List ℕ) (es : List Entry) (new : List Entry) (moved : ℕ)
    (fs : List (List Part)) : Type 0 where
  pub left : List Entry
  pub parted : es ≡ new ++ left
  pub owes : Completes s (at + moved) (dues fs) (drop (at + moved) bytes) left
  pub within : at + moved ≤ length bytes

-- a node ends
pub ended : (s : List KindView) (at : ℕ) (fs : List (List Part)) (c : List ℕ) (es : List Entry)
    → Completes s at (dues ([] ∷ fs)) c es → Completes s at (dues fs) c es
ended s at fs c es r =
    let i = (reads_end s at (length fs + 1) (dues fs)).into c es r in
    subst (λ (n : ℕ). Completes s n (dues fs) c es) (add-zero at)
    (subst (λ (x : List Entry). Completes s (at + 0) (dues fs) c x) (sym i.1) i.2)

-- the whole value has ended
pub nothing_left : (s : List KindView) (at : ℕ) (c : List ℕ) (es : List Entry) → Completes s at (dues ([] ∷ [])) c es
    → es ≡ []
nothing_left s at c es r = (ended s at [] c es r).1

-- content goes by with its zeros
pub content_goes : (s : List KindView) (at n : ℕ) (gs : List (List Part)) (bytes : List ℕ) (es : List Entry)
    → at ≤ length bytes → Completes s at (Rest n ∷ dues gs) (drop at bytes) es
    → Completes s (at + (n + gap n)) (dues gs) (drop (at + (n + gap n)) bytes) es × (at + (n + gap n) ≤ length bytes)
content_goes s at n gs bytes es within r =
    let bs : List ℕ = r.0 in
    let far : n + length (pad n) ≡ n + gap n = ap (λ (m : ℕ). n + m) (pad_length n) in
    let long : length (bs ++ pad n) ≡ n + gap n = omega (arith, length-append bs (pad n), r.2, pad_length n) in
    let spelled : drop at bytes ≡ (bs ++ pad n) ++ r.1 = r.4 ∙ sym (append_assoc bs (pad n) r.1) in
    let behind : drop (at + (n + gap n)) bytes ≡ r.1 = drop_behind bytes (bs ++ pad n) r.1 at (n + gap n) spelled
    long in (
      subst
          (λ (x : List ℕ). Completes s (at + (n + gap n)) (dues gs) x es) (sym behind)
          (subst (λ (m : ℕ). Completes s (at + m) (dues gs) r.1 es) far r.5),
      there bytes ((bs ++ pad n) ++ r.1) at (n + gap n) spelled
          (omega (arith, long, length-append (bs ++ pad n) r.1)) within,
    )

-- ---- what a kind shows

-- a head of one unit shows one part
unit_shown : (s : List KindView) (place d : ℕ) (p : Part) (k : KindView) (x : ℕ) → IsUnitFirst (lead_of k)
    → Accepts s k x
    → shown place d p k (head_of s k x) ≡ first place d p k ∷ []
unit_shown s place d p xdr.int x u a = refl
unit_shown s place d p xdr.unsigned x u a = refl
unit_shown s place d p xdr.boolean zero u a = refl
unit_shown s place d p xdr.boolean (suc zero) u a = refl
unit_shown s place d p xdr.boolean (suc (suc x)) u a = absurd (omega arith)
unit_shown s place d p (xdr.numbered constants) x u a = refl
unit_shown s place d p (xdr.up_to item max) x u a = refl
unit_shown s place d p (xdr.choice tag arms other) x u a = refl
unit_shown s place d p (xdr.maybe item) zero u a = refl
unit_shown s place d p (xdr.maybe item) (suc zero) u a = refl
unit_shown s place d p (xdr.maybe item) (suc (suc x)) u a = absurd (omega arith)
unit_shown s place d p xdr.unknown x u a = absurd a
unit_shown s place d p _ x u a = absurd u

-- a kind of no bytes of its own shows a group
silent_shown : (place d : ℕ) (p : Part) (k : KindView) → IsSilent (lead_of k)
    → shown place d p k (silent_head k) ≡ entry place 0 d p of_group ∷ []
silent_shown place d p (xdr.fixed item size) u = refl
silent_shown place d p (xdr.structure fields) u = refl
silent_shown place d p xdr.nothing u = refl
silent_shown place d p _ u = absurd u

bytes_low : (place d : ℕ) (p : Part) (k : KindView) (n : ℕ) (ps : List Entry) → AreLow (shown_bytes place d p k n ++ ps)
    → d ≤ 4096
bytes_low place d p (xdr.opaque size) n ps a = a.0
bytes_low place d p _ n ps a = a.0

items_low : (place d : ℕ) (p : Part) (k : KindView) (ps : List Entry) → AreLow (shown_items place d p k ++ ps)
    → d ≤ 4096
items_low place d p (xdr.fixed item size) ps a = a.0
items_low place d p _ ps a = a.0

shown_low : (place d : ℕ) (p : Part) (k : KindView) (h : Head) (ps : List Entry) → AreLow (shown place d p k h ++ ps)
    → d ≤ 4096
shown_low place d p k (value.bytes bs) ps a = bytes_low place d p k (length bs) ps a
shown_low place d p k (value.items n) ps a = items_low place d p k ps a
shown_low place d p k _ ps a = a.0

-- a length is what a counted content begins with
length_role : (k : KindView) → IsLengthFirst (lead_of k) → role_of k ≡ of_length
length_role (xdr.opaque_up_to max) u = refl
length_role (xdr.text max) u = refl
length_role _ u = absurd u

-- a unit and the bytes behind it
pub unit_spelled : (bytes : List ℕ) (at x : ℕ) → word x ≡ take 4 (drop at bytes)
    → drop at bytes ≡ word x ++ drop (at + 4) bytes
unit_spelled bytes at x e =
    sym (take-append-drop 4 (drop at bytes)) ∙ ap (λ (l : List ℕ). l ++ drop 4 (drop at bytes)) (sym e)
    ∙ ap (λ (l : List ℕ). word x ++ l) (drop-drop 4 at bytes)

by_lead : {A : Type 0} → (l : Lead) → HasUnit l → (IsUnitFirst l → A) → (IsLengthFirst l → A) → A
by_lead UnitFirst u f g = f tt
by_lead LengthFirst u f g = g tt
by_lead FreeBytes u f g = absurd u
by_lead Silent u f g = absurd u

-- ---- the part that comes next

module _ (s : List KindView) (at : ℕ) (bytes : List ℕ) (p : Part) (ps : List Part) (fs : List (List Part))
    (es : List Entry) (within : at ≤ length bytes) (r : Completes s at (dues ((p ∷ ps) ∷ fs)) (drop at bytes) es) where
  abbrev K : KindView
  K = kind_at s p.kind

  abbrev D : ℕ
  D = length fs + 1

  -- its kind is one of the list
  pub known : p.kind < length s
  known = let b = begin_into s at D p ps (dues fs) (drop at bytes) es r in legal_known s p.kind b.0 b.3

  -- it is not too deep
  pub shallow : AreLow es → length fs < 4096
  shallow low =
      let b = begin_into s at D p ps (dues fs) (drop at bytes) es r in
      let deep : D ≤ 4096 = shown_low at D p K b.0 b.2 (subst (λ (x : List Entry). AreLow x) b.5 low) in
      omega arith

  -- its first unit is there
  pub unit_there : HasUnit (lead_of K) → at + 4 ≤ length bytes
  unit_there u =
      let b = begin_into s at D p ps (dues fs) (drop at bytes) es r in
      let f = shows_first s at D p K b.0 u b.3 in
      there bytes (own K b.0 ++ b.1) at 4 b.4 (omega (arith, f.3, length-append (own K b.0) b.1)) within

  -- and is one that the kind accepts
  pub unit_accepted : (x : ℕ) (c : List ℕ) → HasUnit (lead_of K) → x < 2 ^ 32 → drop at bytes ≡ word x ++ c
      → Accepts s K x
  unit_accepted x c u less e =
      let q : Completes s at (dues ((p ∷ ps) ∷ fs)) (word x ++ c) es =
      subst (λ (b : List ℕ). Completes s at (dues ((p ∷ ps) ∷ fs)) b es) e r in
      by_lead {A = Accepts s K x} (lead_of K) u
      (λ first. refuses_unit s at D p ps (dues fs) x c es first less q)
      (λ first. refuses_length s at D p ps (dues fs) x c es first less q)

  -- a unit that makes a head
  pub goes_unit : (x : ℕ) (inner : List Part) → IsUnitFirst (lead_of K) → Accepts s K x
      → drop at bytes ≡ word x ++ drop (at + 4) bytes → at + 4 ≤ length bytes → parts K (head_of s K x) ≡ inner
      → Goes s at bytes es (entry at 4 D p (role_of K) ∷ []) 4 (inner ∷ ps ∷ fs)
  goes_unit x inner u a e long is =
      let q : Completes s at (dues ((p ∷ ps) ∷ fs)) (word x ++ drop (at + 4) bytes) es =
      subst (λ (b : List ℕ). Completes s at (dues ((p ∷ ps) ∷ fs)) b es) e r in
      let i = (reads_unit s at D p ps (dues fs) x u a).into (drop (at + 4) bytes) es q in
      let far : D + 1 ≡ length (ps ∷ fs) + 1 = omega arith in
      record {
        left = i.0;
        parted = i.1 ∙ ap (λ (b : List Entry). b ++ i.0) (unit_shown s at D p K x u a);
        owes = subst (λ (y : List Part). Completes s (at + 4) (dues (y ∷ ps ∷ fs)) (drop (at + 4) bytes) i.0) is
            (subst (λ (n : ℕ). Completes s (at + 4) (Frame n (parts K (head_of s K x)) ∷ dues (ps ∷ fs))
            (drop (at + 4) bytes) i.0) far i.2);
        within = long;
      }

  -- a unit that makes a head without parts
  pub goes_leaf : (x : ℕ) → IsUnitFirst (lead_of K) → Accepts s K x
      → drop at bytes ≡ word x ++ drop (at + 4) bytes → at + 4 ≤ length bytes → parts K (head_of s K x) ≡ []
      → Goes s at bytes es (entry at 4 D p (role_of K) ∷ []) 4 (ps ∷ fs)
  goes_leaf x u a e long is =
      let g = goes_unit x [] u a e long is in
      record {
        left = g.left;
        parted = g.parted;
        owes = ended s (at + 4) (ps ∷ fs) (drop (at + 4) bytes) g.left g.owes;
        within = long;
      }

  -- a length and its content
  pub goes_length : (x : ℕ) → IsLengthFirst (lead_of K) → Accepts s K x
      → drop at bytes ≡ word x ++ drop (at + 4) bytes → at + 4 ≤ length bytes
      → Goes s at bytes es (counted at D p x) (4 + (x + gap x)) (ps ∷ fs)
  goes_length x u a e long =
      let q : Completes s at (dues ((p ∷ ps) ∷ fs)) (word x ++ drop (at + 4) bytes) es =
      subst (λ (b : List ℕ). Completes s at (dues ((p ∷ ps) ∷ fs)) b es) e r in
      let i = (reads_length s at D p ps (dues fs) x u a).into (drop (at + 4) bytes) es q in
      let g = content_goes s (at + 4) x (ps ∷ fs) bytes i.0 long i.2 in
      let far : at + 4 + (x + gap x) ≡ at + (4 + (x + gap x)) = omega arith in
      record {
        left = i.0;
        parted = i.1;
        owes = subst (λ (n : ℕ). Completes s n (dues (ps ∷ fs)) (drop n bytes) i.0) far g.0;
        within = omega (arith, g.1);
      }

  -- so many bytes, whatever they are
  pub goes_free : IsFreeBytes (lead_of K)
      → Goes s at bytes es (free_parts at D p K) (free_size K + gap (free_size K)) (ps ∷ fs)
  goes_free u =
      let n : ℕ = free_size K in
      let i = (reads_free s at D p ps (dues fs) u).into (drop at bytes) es r in
      let here : Completes s at (Rest n ∷ dues (ps ∷ fs)) (drop at bytes) i.0 =
      subst (λ (m : ℕ). Completes s m (Rest n ∷ dues (ps ∷ fs)) (drop at bytes) i.0) (add-zero at) i.2 in
      let g = content_goes s at n (ps ∷ fs) bytes i.0 within here in
      record { left = i.0; parted = i.1; owes = g.0; within = g.1 }

  -- a number of one unit
  pub goes_number : (role : Role) (size : ℕ) → IsUnitAs K role size
      → Goes s at bytes es (entry at (size_in role size) D p (role_in role size) ∷ []) (size + gap size) (ps ∷ fs)
  goes_number role size u =
      let b = begin_into s at D p ps (dues fs) (drop at bytes) es r in
      let n = u.2 s at D p b.0 b.3 in
      let far : D + 1 ≡ length (ps ∷ fs) + 1 = omega arith in
      let behind : drop (at + 4) bytes ≡ b.1 = drop_behind bytes (own K b.0) b.1 at 4 b.4 n.1 in
      let first : Completes s (at + 4) (Frame (D + 1) (parts K b.0) ∷ dues (ps ∷ fs)) b.1 b.2 =
      subst (λ (m : ℕ). Completes s (at + m) (Frame (D + 1) (parts K b.0) ∷ dues (ps ∷ fs)) b.1 b.2) n.1 b.6 in
      let none : Completes s (at + 4) (Frame (D + 1) [] ∷ dues (ps ∷ fs)) b.1 b.2 =
      subst (λ (y : List Part). Completes s (at + 4) (Frame (D + 1) y ∷ dues (ps ∷ fs)) b.1 b.2) n.2 first in
      let level : Completes s (at + 4) (dues ([] ∷ ps ∷ fs)) b.1 b.2 =
      subst (λ (m : ℕ). Completes s (at + 4) (Frame m [] ∷ dues (ps ∷ fs)) b.1 b.2) far none in
      let goes : Goes s at bytes es (entry at 4 D p of_number ∷ []) 4 (ps ∷ fs) = record {
        left = b.2;
        parted = b.5 ∙ ap (λ (x : List Entry). x ++ b.2) n.0;
        owes = ended s (at + 4) (ps ∷ fs) (drop (at + 4) bytes) b.2
            (subst (λ (x : List ℕ). Completes s (at + 4) (dues ([] ∷ ps ∷ fs)) x b.2) (sym behind) level);
        within = there bytes (own K b.0 ++ b.1) at 4 b.4 (omega (arith, n.1, length-append (own K b.0) b.1)) within;
      } in
      subst (λ (x : Role). Goes s at bytes es (entry at (size_in x size) D p (role_in x size) ∷ []) (size + gap size)
      (ps ∷ fs)) (sym u.0)
      (subst (λ (m : ℕ). Goes s at bytes es (entry at m D p of_number ∷ []) (m + gap m) (ps ∷ fs)) (sym u.1) goes)

  -- no bytes of its own
  pub goes_group : (inner : List Part) → IsSilent (lead_of K) → parts K (silent_head K) ≡ inner
      → Goes s at bytes es (entry at 0 D p of_group ∷ []) 0 (inner ∷ ps ∷ fs)
  goes_group inner u is =
      let i = (reads_silent s at D p ps (dues fs) u).into (drop at bytes) es r in
      let far : D + 1 ≡ length (ps ∷ fs) + 1 = omega arith in
      record {
        left = i.0;
        parted = i.1 ∙ ap (λ (b : List Entry). b ++ i.0) (silent_shown at D p K u);
        owes = subst (λ (b : List ℕ). Completes s (at + 0) (dues (inner ∷ ps ∷ fs)) b i.0)
            (ap (λ (m : ℕ). drop m bytes) (sym (add-zero at)))
            (subst (λ (y : List Part). Completes s (at + 0) (dues (y ∷ ps ∷ fs)) (drop at bytes) i.0) is
            (subst (λ (n : ℕ). Completes s (at + 0) (Frame n (parts K (silent_head K)) ∷ dues (ps ∷ fs))
            (drop at bytes) i.0) far i.2));
        within = omega arith;
      }

  -- the same, of a kind that is that of the part
  module _ (k : KindView) (same : k ≡ K) where
    pub unit_there_of : HasUnit (lead_of k) → at + 4 ≤ length bytes
    unit_there_of u = unit_there (subst (λ (f : KindView). HasUnit (lead_of f)) same u)

    pub accepted_of : (x : ℕ) → HasUnit (lead_of k) → x < 2 ^ 32 → word x ≡ take 4 (drop at bytes) → Accepts s k x
    accepted_of x u less e =
        subst (λ (f : KindView). Accepts s f x) (sym same)
        (unit_accepted x (drop (at + 4) bytes) (subst (λ (f : KindView). HasUnit (lead_of f)) same u) less
        (unit_spelled bytes at x e))

    pub leaf_of : (x : ℕ) → IsUnitFirst (lead_of k) → Accepts s k x → word x ≡ take 4 (drop at bytes)
        → at + 4 ≤ length bytes → parts k (head_of s k x) ≡ []
        → Goes s at bytes es (entry at 4 D p (role_of k) ∷ []) 4 (ps ∷ fs)
    leaf_of x u a e long is =
        let all : IsUnitFirst (lead_of K) → Accepts s K x → parts K (head_of s K x) ≡ []
        → Goes s at bytes es (entry at 4 D p (role_of K) ∷ []) 4 (ps ∷ fs) =
        λ v b none. goes_leaf x v b (unit_spelled bytes at x e) long none in
        subst (λ (f : KindView). IsUnitFirst (lead_of f) → Accepts s f x → parts f (head_of s f x) ≡ []
        → Goes s at bytes es (entry at 4 D p (role_of f) ∷ []) 4 (ps ∷ fs)) (sym same) all u a is

    pub open_of : (x : ℕ) (inner : List Part) → IsUnitFirst (lead_of k) → Accepts s k x
        → word x ≡ take 4 (drop at bytes) → at + 4 ≤ length bytes → parts k (head_of s k x) ≡ inner
        → Goes s at bytes es (entry at 4 D p (role_of k) ∷ []) 4 (inner ∷ ps ∷ fs)
    open_of x inner u a e long is =
        let all : IsUnitFirst (lead_of K) → Accepts s K x → parts K (head_of s K x) ≡ inner
        → Goes s at bytes es (entry at 4 D p (role_of K) ∷ []) 4 (inner ∷ ps ∷ fs) =
        λ v b some. goes_unit x inner v b (unit_spelled bytes at x e) long some in
        subst (λ (f : KindView). IsUnitFirst (lead_of f) → Accepts s f x → parts f (head_of s f x) ≡ inner
        → Goes s at bytes es (entry at 4 D p (role_of f) ∷ []) 4 (inner ∷ ps ∷ fs)) (sym same) all u a is

    pub length_of : (x : ℕ) → IsLengthFirst (lead_of k) → Accepts s k x → word x ≡ take 4 (drop at bytes)
        → at + 4 ≤ length bytes → Goes s at bytes es (counted at D p x) (4 + (x + gap x)) (ps ∷ fs)
    length_of x u a e long =
        goes_length x (subst (λ (f : KindView). IsLengthFirst (lead_of f)) same u)
        (subst (λ (f : KindView). Accepts s f x) same a) (unit_spelled bytes at x e) long

    pub free_of : (role : Role) (size : ℕ) → IsFree k role size
        → Goes s at bytes es (entry at (size_in role size) D p (role_in role size) ∷ []) (size + gap size) (ps ∷ fs)
    free_of role size f =
        free_as K role size (subst (λ (f : KindView). IsFree f role size) same f)
        (λ g. subst (λ (l : List Entry). Goes s at bytes es l (size + gap size) (ps ∷ fs)) (g.2 at D p)
        (subst (λ (n : ℕ). Goes s at bytes es (free_parts at D p K) (n + gap n) (ps ∷ fs)) g.1 (goes_free g.0)))
        (goes_number role size)

    pub group_of : (inner : List Part) → IsSilent (lead_of k) → parts k (silent_head k) ≡ inner
        → Goes s at bytes es (entry at 0 D p of_group ∷ []) 0 (inner ∷ ps ∷ fs)
    group_of inner u is =
        let all : IsSilent (lead_of K) → parts K (silent_head K) ≡ inner
        → Goes s at bytes es (entry at 0 D p of_group ∷ []) 0 (inner ∷ ps ∷ fs) = λ v some. goes_group inner v some in
        subst (λ (f : KindView). IsSilent (lead_of f) → parts f (silent_head f) ≡ inner
        → Goes s at bytes es (entry at 0 D p of_group ∷ []) 0 (inner ∷ ps ∷ fs)) (sym same) all u is
