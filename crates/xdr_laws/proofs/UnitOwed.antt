-- How what is owed changes, by a kind of no bytes of its own and by a unit that is read.
use Rattle.std.proofs.Common.{◌≡◌, ℕ, zero, suc, ◌+◌, ◌-◌, ◌^◌, ◌<◌, ◌≤◌, ℤ, pos, negsuc, Bool, true, false, nat_lt}
use Rattle.std.proofs.Common.{List, [], ◌∷◌, ◌++◌, refl, sym, ap, subst, ◌∙◌, arith, lit<, ltb-true}
use Rattle.std.specs.Prelude.{is_some}
use Rattle.xdr_units.specs.Numbers.{word}
use Rattle.xdr_types.specs.Kinds as xdr
use Rattle.xdr_types.specs.Kinds.{KindView, Part, kind_at}
use Rattle.xdr_types.specs.Tree as value
use Rattle.xdr_types.specs.Tree.{Head}
use Rattle.xdr_types.specs.Fits.{parts, part_of, is_tag_of, is_numbered}
use Rattle.xdr_types.specs.Spelling.{own}
use Rattle.xdr_types.specs.Layout.{Entry, shown}
use Rattle.xdr_types.specs.Outcome.{signed, number_in}
use Rattle.xdr_laws.specs.Owed.{Due, Frame, Completes, Reads, lead_of, IsUnitFirst, IsSilent, silent_head, Accepts}
use Rattle.xdr_laws.specs.Owed.{flag, truth, head_of}
use Rattle.xdr_laws.proofs.Legal.{IsSigned, IsLegal, numbered_signed}
use Rattle.xdr_laws.proofs.Numbers.{unit_of, from4, from4-unit4, signed_back, signed_low, signed_high, number_back}
use Rattle.xdr_laws.proofs.Owed.{begin_into, reads_head}

abbrev IsSilentHead : List KindView → KindView → Head → Type 0
IsSilentHead s k h = IsLegal s k h × (own k h ≡ []) × ((g : Head) → IsLegal s k g → h ≡ g)

silent_is : (s : List KindView) (k : KindView) → IsSilent (lead_of k) → IsSilentHead s k (silent_head k)
silent_is s (xdr.fixed item size) u = (refl, refl, λ g l. only_items s item size g l)
  where
    only_items : (s : List KindView) (item size : ℕ) (g : Head) → IsLegal s (xdr.fixed item size) g
        → value.items size ≡ g
    only_items s item size (value.items n) l = ap value.items (sym l)
    only_items s item size _ l = absurd l
silent_is s (xdr.structure fields) u = (tt, refl, λ g l. only_fields s fields g l)
  where
    only_fields : (s : List KindView) (fields : List Part) (g : Head) → IsLegal s (xdr.structure fields) g
        → value.fields ≡ g
    only_fields s fields value.fields l = refl
    only_fields s fields _ l = absurd l
silent_is s xdr.nothing u = (tt, refl, λ g l. only_void s g l)
  where
    only_void : (s : List KindView) (g : Head) → IsLegal s xdr.nothing g → value.nothing ≡ g
    only_void s value.nothing l = refl
    only_void s _ l = absurd l
silent_is s _ u = absurd u

pub silent_legal : (s : List KindView) (k : KindView) → IsSilent (lead_of k) → IsLegal s k (silent_head k)
silent_legal s k u = (silent_is s k u).0

pub silent_only : (s : List KindView) (k : KindView) → IsSilent (lead_of k) → (g : Head) → IsLegal s k g
    → silent_head k ≡ g
silent_only s k u = (silent_is s k u).2

pub reads_silent : (s : List KindView) (place d : ℕ) (t : Part) (ts : List Part) (ds : List Due)
    → IsSilent (lead_of (kind_at s t.kind))
    → Reads s place (Frame d (t ∷ ts) ∷ ds) [] (shown place d t (kind_at s t.kind) (silent_head (kind_at s t.kind)))
    (Frame (d + 1) (parts (kind_at s t.kind) (silent_head (kind_at s t.kind))) ∷ Frame d ts ∷ ds)
reads_silent s place d t ts ds u =
    let k : KindView = kind_at s t.kind in
    let h : Head = silent_head k in
    let i = silent_is s k u in
    subst (λ (q : List ℕ). Reads s place (Frame d (t ∷ ts) ∷ ds) q (shown place d t k h)
    (Frame (d + 1) (parts k h) ∷ Frame d ts ∷ ds)) i.1
    (reads_head s place d t ts ds h i.0 (λ g c x l e. i.2 g l))

only_unit : (n x : ℕ) (c y : List ℕ) → n < 2 ^ 32 → x < 2 ^ 32 → word n ++ c ≡ word x ++ y → n ≡ x
only_unit n x c y small less e = sym (from4-unit4 n c small) ∙ ap from4 e ∙ from4-unit4 x y less

-- a legal head whose bytes begin with the unit x is the head that x makes, and x is accepted
pub head_is : (s : List KindView) (k : KindView) (g : Head) (x : ℕ) (c y : List ℕ) → IsUnitFirst (lead_of k)
    → x < 2 ^ 32
    → IsLegal s k g → word x ++ c ≡ own k g ++ y → Accepts s k x × (head_of s k x ≡ g)
head_is s xdr.int (value.int z) x c y u less l e =
    let b = signed_back z l in
    let same : x ≡ unit_of z = only_unit x (unit_of z) c y less b.0 e in
    (less, ap (λ (n : ℕ). value.int (signed n)) same ∙ ap value.int b.1)
head_is s xdr.unsigned (value.unsigned n) x c y u less l e =
    let same : x ≡ n = only_unit x n c y less l e in (less, ap value.unsigned same)
head_is s xdr.boolean (value.boolean true) x c y u less l e =
    let same : x ≡ 1 = only_unit x 1 c y less (lit< tt) e in (omega arith, ap truth same)
head_is s xdr.boolean (value.boolean false) x c y u less l e =
    let same : x ≡ 0 = only_unit x 0 c y less (lit< tt) e in (omega arith, ap truth same)
head_is s (xdr.numbered constants) (value.numbered z) x c y u less l e =
    let b = signed_back z (numbered_signed constants z l) in
    let same : x ≡ unit_of z = only_unit x (unit_of z) c y less b.0 e in
    let number : signed x ≡ z = ap signed same ∙ b.1 in
    ((less, subst (λ (n : ℤ). is_numbered constants n ≡ true) (sym number) l), ap value.numbered number)
head_is s (xdr.up_to item max) (value.items n) x c y u less l e =
    let same : x ≡ n = only_unit x n c y less l.1 e in ((omega arith, less), ap value.items same)
head_is s (xdr.choice tag arms other) (value.tag z) x c y u less l e =
    let k : KindView = kind_at s tag in
    let b = number_back k z l.0 in
    let same : x ≡ unit_of z = only_unit x (unit_of z) c y less b.0 e in
    let number : number_in k x ≡ z = ap (number_in k) same ∙ b.1 in (
      (
        less,
        subst (λ (n : ℤ). is_tag_of k n ≡ true) (sym number) l.0,
        subst
            (λ (n : ℤ). is_some (part_of arms other n) ≡ true) (sym number) l.1,
      ),
      ap value.tag number,
    )
head_is s (xdr.maybe item) value.present x c y u less l e =
    let same : x ≡ 1 = only_unit x 1 c y less (lit< tt) e in (omega arith, ap flag same)
head_is s (xdr.maybe item) value.absent x c y u less l e =
    let same : x ≡ 0 = only_unit x 0 c y less (lit< tt) e in (omega arith, ap flag same)
head_is s xdr.hyper g x c y u less l e = absurd u
head_is s xdr.unsigned_hyper g x c y u less l e = absurd u
head_is s (xdr.opaque size) g x c y u less l e = absurd u
head_is s (xdr.opaque_up_to max) g x c y u less l e = absurd u
head_is s (xdr.text max) g x c y u less l e = absurd u
head_is s (xdr.fixed item size) g x c y u less l e = absurd u
head_is s (xdr.structure fields) g x c y u less l e = absurd u
head_is s xdr.nothing g x c y u less l e = absurd u
head_is s _ _ x c y u less l e = absurd l

-- the number in a unit is in its range, and has that unit
signed_unit : (x : ℕ) → x < 2 ^ 32 → IsSigned (2 ^ 31) (signed x) × (unit_of (signed x) ≡ x)
signed_unit x h = by_half x h (nat_lt x (2 ^ 31)) refl
  where
    low : (x : ℕ) → x < 2 ^ 31 → IsSigned (2 ^ 31) (pos x) × (unit_of (pos x) ≡ x)
    low x h = (h, refl)

    high : (x : ℕ) → 2 ^ 31 ≤ x → x < 2 ^ 32
        → IsSigned (2 ^ 31) (negsuc (2 ^ 32 - 1 - x)) × (unit_of (negsuc (2 ^ 32 - 1 - x)) ≡ x)
    high x h less = (omega arith, omega arith)

    by_half : (x : ℕ) → x < 2 ^ 32 → (b : Bool) → nat_lt x (2 ^ 31) ≡ b
        → IsSigned (2 ^ 31) (signed x) × (unit_of (signed x) ≡ x)
    by_half x h true e =
        let below = ltb-true x (2 ^ 31) e in
        subst (λ (z : ℤ). IsSigned (2 ^ 31) z × (unit_of z ≡ x)) (sym (signed_low x below)) (low x below)
    by_half x h false e =
        let above : 2 ^ 31 ≤ x = grind arith in
        subst (λ (z : ℤ). IsSigned (2 ^ 31) z × (unit_of z ≡ x)) (sym (signed_high x above)) (high x above h)

number_unit : (k : KindView) (x : ℕ) → x < 2 ^ 32 → unit_of (number_in k x) ≡ x
number_unit xdr.int x h = (signed_unit x h).1
number_unit (xdr.numbered constants) x h = (signed_unit x h).1
number_unit _ x h = refl

abbrev MakesHead : List KindView → KindView → ℕ → Type 0
MakesHead s k x = IsLegal s k (head_of s k x) × (own k (head_of s k x) ≡ word x) × (x < 2 ^ 32)

-- what is accepted makes a legal head, whose bytes are the unit
pub head_legal : (s : List KindView) (k : KindView) (x : ℕ) → IsUnitFirst (lead_of k) → Accepts s k x → MakesHead s k x
head_legal s xdr.int x u a = let b = signed_unit x a in (b.0, ap word b.1, a)
head_legal s xdr.unsigned x u a = (a, refl, a)
head_legal s xdr.boolean zero u a = (tt, refl, lit< tt)
head_legal s xdr.boolean (suc zero) u a = (tt, refl, lit< tt)
head_legal s xdr.boolean (suc (suc x)) u a = absurd (omega arith)
head_legal s (xdr.numbered constants) x u a = let b = signed_unit x a.0 in (a.1, ap word b.1, a.0)
head_legal s (xdr.up_to item max) x u a = (a, refl, a.1)
head_legal s (xdr.choice tag arms other) x u a = ((a.1, a.2), ap word (number_unit (kind_at s tag) x a.0), a.0)
head_legal s (xdr.maybe item) zero u a = (tt, refl, lit< tt)
head_legal s (xdr.maybe item) (suc zero) u a = (tt, refl, lit< tt)
head_legal s (xdr.maybe item) (suc (suc x)) u a = absurd (omega arith)
head_legal s xdr.unknown x u a = absurd a
head_legal s _ x u a = absurd u

-- an accepted unit is read
pub reads_unit : (s : List KindView) (place d : ℕ) (t : Part) (ts : List Part) (ds : List Due) (x : ℕ)
    → IsUnitFirst (lead_of (kind_at s t.kind)) → Accepts s (kind_at s t.kind) x
    → Reads s place (Frame d (t ∷ ts) ∷ ds) (word x)
    (shown place d t (kind_at s t.kind) (head_of s (kind_at s t.kind) x))
    (Frame (d + 1) (parts (kind_at s t.kind) (head_of s (kind_at s t.kind) x)) ∷ Frame d ts ∷ ds)
reads_unit s place d t ts ds x u a =
    let k : KindView = kind_at s t.kind in
    let l = head_legal s k x u a in
    let h : Head = head_of s k x in
    subst (λ (q : List ℕ). Reads s place (Frame d (t ∷ ts) ∷ ds) q (shown place d t k h)
    (Frame (d + 1) (parts k h) ∷ Frame d ts ∷ ds)) l.1
    (reads_head s place d t ts ds h l.0 (λ g c y legal e.
    (head_is s k g x c y u l.2 legal (ap (λ (b : List ℕ). b ++ c) (sym l.1) ∙ e)).1))

-- and no other unit begins what is owed
pub refuses_unit : (s : List KindView) (place d : ℕ) (t : Part) (ts : List Part) (ds : List Due) (x : ℕ) (c : List ℕ)
    (ps : List Entry) → IsUnitFirst (lead_of (kind_at s t.kind)) → x < 2 ^ 32
    → Completes s place (Frame d (t ∷ ts) ∷ ds) (word x ++ c) ps → Accepts s (kind_at s t.kind) x
refuses_unit s place d t ts ds x c ps u less r =
    let b = begin_into s place d t ts ds (word x ++ c) ps r in
    (head_is s (kind_at s t.kind) b.0 x c b.1 u less b.3 b.4).0
