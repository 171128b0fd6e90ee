-- Two items at one entry whose bytes come first in one list are one.
use Rattle.std.proofs.Common.{◌≡◌, ℕ, ℤ, pos, negsuc, ◌<◌, ◌^◌, Bool, true, false, List, [], ◌++◌, length, refl, ap}
use Rattle.std.proofs.Common.{sym, ◌∙◌}
use Rattle.std.proofs.Common.{arith, append_assoc, subst}
use Rattle.xdr_types.specs.Kinds as xdr
use Rattle.xdr_types.specs.Kinds.{KindView, kind_at}
use Rattle.xdr_types.specs.Layout.{Entry, Role, of_number, of_flag, of_content}
use Rattle.xdr_types.proofs.Numbers.{num4-front, num8-front, signed4, signed8, unsigned4, unsigned8}
use Rattle.xdr_units.specs.Numbers.{word, num4, padded, number_of}
use Rattle.xdr_units.proofs.Bytes.{same_word, same_content}
use Rattle.xdr_writer.specs.Items.{ItemView, number, flag, count, content, NodeItem, of_node, spelled_as, spelled}
use Rattle.xdr_writer.specs.Forms.{HasForm, IsCounted, IsContentOf, is_in_unit, is_in_range, IsInRange}
use Rattle.xdr_writer.proofs.ItemsOf.{never}
use Rattle.xdr_writer.proofs.Placed.{IsAt}

unsigned_same : (a b : ℤ) → is_in_unit xdr.unsigned a ≡ true → is_in_unit xdr.unsigned b ≡ true → num4 a ≡ num4 b
    → a ≡ b
unsigned_same (pos m) (pos n) h k e = ap pos (unsigned4 m n h k e)
unsigned_same (negsuc m) b h k e = never h
unsigned_same a (negsuc n) h k e = never k

unit_same : (k : KindView) (a b : ℤ) → is_in_unit k a ≡ true → is_in_unit k b ≡ true → num4 a ≡ num4 b → a ≡ b
unit_same xdr.int a b h k e = signed4 a b h k e
unit_same (xdr.numbered constants) a b h k e = signed4 a b h k e
unit_same _ a b h k e = unsigned_same a b h k e

wide_same : (a b : ℤ) → is_in_range [] xdr.unsigned_hyper a ≡ true → is_in_range [] xdr.unsigned_hyper b ≡ true
    → spelled_as xdr.unsigned_hyper (number a) ≡ spelled_as xdr.unsigned_hyper (number b) → a ≡ b
wide_same (pos m) (pos n) h k e = ap pos (unsigned8 m n h k e)
wide_same (negsuc m) b h k e = never h
wide_same a (negsuc n) h k e = never k

pub flags : (a b : Bool) (x y : List ℕ) → num4 (number_of a) ++ x ≡ num4 (number_of b) ++ y → a ≡ b
flags true true x y e = refl
flags false false x y e = refl
flags true false x y e =
    let one : 1 ≡ 0 = (same_word 1 0 x y (omega arith) (omega arith) e).0 in absurd (omega (arith, one))
flags false true x y e =
    let one : 0 ≡ 1 = (same_word 0 1 x y (omega arith) (omega arith) e).0 in absurd (omega (arith, one))

contents : (a b x y : List ℕ) → length a < 2 ^ 32 → length b < 2 ^ 32
    → (num4 (pos (length a)) ++ padded a) ++ x ≡ (num4 (pos (length b)) ++ padded b) ++ y → a ≡ b
contents a b x y h k e =
    let apart : word (length a) ++ (padded a ++ x) ≡ word (length b) ++ (padded b ++ y) =
    sym (append_assoc (word (length a)) (padded a) x) ∙ e ∙ append_assoc (word (length b)) (padded b) y in
    let w = same_word (length a) (length b) (padded a ++ x) (padded b ++ y) h k apart in
    (same_content a b x y w.0 w.1).0

abbrev count_of : Role → ℕ
count_of (of_content n) = n
count_of _ = 0

-- content has neither the role of a number nor that of a flag, and its kind is no array
apart_number : (k : KindView) (n : ℕ) → IsContentOf k n of_number → ⊥
apart_number (xdr.opaque size) n h = absurd cc
apart_number (xdr.opaque_up_to max) n h = absurd cc
apart_number (xdr.text max) n h = absurd cc
apart_number _ n h = h

apart_flag : (k : KindView) (n : ℕ) → IsContentOf k n of_flag → ⊥
apart_flag (xdr.opaque size) n h = absurd cc
apart_flag (xdr.opaque_up_to max) n h = absurd cc
apart_flag (xdr.text max) n h = absurd cc
apart_flag _ n h = h

apart_count : (k : KindView) (n : ℕ) (role : Role) → IsContentOf k n role → IsCounted k → ⊥
apart_count (xdr.up_to item max) n role h c = h
apart_count _ n role h c = c

by_role : (k : KindView) (n : ℕ) (a b : Role) → a ≡ b → IsContentOf k n a → IsContentOf k n b
by_role k n a b e h = subst (λ (r : Role). IsContentOf k n r) e h

module _ (s : List KindView) where
  pub numbers : (k : KindView) (a b : ℤ) (x y : List ℕ) → is_in_range s k a ≡ true → is_in_range s k b ≡ true
      → spelled_as k (number a) ++ x ≡ spelled_as k (number b) ++ y → a ≡ b
  numbers xdr.hyper a b x y h k e = signed8 a b h k (num8-front a b x y e).0
  numbers xdr.unsigned_hyper a b x y h k e = wide_same a b h k (num8-front a b x y e).0
  numbers (xdr.choice tag arms other) a b x y h k e = unit_same (kind_at s tag) a b h k (num4-front a b x y e).0
  numbers xdr.int a b x y h k e = unit_same xdr.int a b h k (num4-front a b x y e).0
  numbers xdr.unsigned a b x y h k e = unit_same xdr.unsigned a b h k (num4-front a b x y e).0
  numbers xdr.boolean a b x y h k e = unit_same xdr.boolean a b h k (num4-front a b x y e).0
  numbers (xdr.numbered cs) a b x y h k e = unit_same (xdr.numbered cs) a b h k (num4-front a b x y e).0
  numbers (xdr.opaque size) a b x y h k e = unit_same (xdr.opaque size) a b h k (num4-front a b x y e).0
  numbers (xdr.opaque_up_to max) a b x y h k e = unit_same (xdr.opaque_up_to max) a b h k (num4-front a b x y e).0
  numbers (xdr.text max) a b x y h k e = unit_same (xdr.text max) a b h k (num4-front a b x y e).0
  numbers (xdr.fixed item size) a b x y h k e = unit_same (xdr.fixed item size) a b h k (num4-front a b x y e).0
  numbers (xdr.up_to item max) a b x y h k e = unit_same (xdr.up_to item max) a b h k (num4-front a b x y e).0
  numbers (xdr.structure ps) a b x y h k e = unit_same (xdr.structure ps) a b h k (num4-front a b x y e).0
  numbers (xdr.maybe item) a b x y h k e = unit_same (xdr.maybe item) a b h k (num4-front a b x y e).0
  numbers xdr.nothing a b x y h k e = unit_same xdr.nothing a b h k (num4-front a b x y e).0
  numbers xdr.unknown a b x y h k e = unit_same xdr.unknown a b h k (num4-front a b x y e).0

  contents_as : (k : KindView) (role : Role) (a b x y : List ℕ) → IsContentOf k (length a) role
      → IsContentOf k (length b) role → IsInRange s k (content a) → IsInRange s k (content b)
      → spelled_as k (content a) ++ x ≡ spelled_as k (content b) ++ y → a ≡ b
  contents_as (xdr.opaque size) role a b x y h k f g e =
      let long : length a ≡ length b = ap count_of (sym h ∙ k) in (same_content a b x y long e).0
  contents_as (xdr.opaque_up_to max) role a b x y h k f g e = contents a b x y f g e
  contents_as (xdr.text max) role a b x y h k f g e = contents a b x y f g e
  contents_as _ role a b x y h k f g e = absurd h

  same_view : (k : KindView) (role : Role) (i j : ItemView) (x y : List ℕ) → HasForm k role i → HasForm k role j
      → IsInRange s k i → IsInRange s k j → spelled_as k i ++ x ≡ spelled_as k j ++ y → i ≡ j
  same_view k role (number a) (number b) x y h m f g e = ap number (numbers k a b x y f g e)
  same_view k role (flag a) (flag b) x y h m f g e = ap flag (flags a b x y e)
  same_view k role (count a) (count b) x y h m f g e = ap count (same_word a b x y f g e).0
  same_view k role (content a) (content b) x y h m f g e = ap content (contents_as k role a b x y h m f g e)
  same_view k role (number a) (content b) x y h m f g e = absurd (apart_number k (length b) (by_role k _ _ _ h m))
  same_view k role (content a) (number b) x y h m f g e = absurd (apart_number k (length a) (by_role k _ _ _ m h))
  same_view k role (flag a) (content b) x y h m f g e = absurd (apart_flag k (length b) (by_role k _ _ _ h m))
  same_view k role (content a) (flag b) x y h m f g e = absurd (apart_flag k (length a) (by_role k _ _ _ m h))
  same_view k role (count a) (content b) x y h m f g e = absurd (apart_count k (length b) role m h.1)
  same_view k role (content a) (count b) x y h m f g e = absurd (apart_count k (length a) role h m.1)
  same_view k role (number a) (flag b) x y h m f g e = absurd (cc (h, m))
  same_view k role (flag a) (number b) x y h m f g e = absurd (cc (h, m))
  same_view k role (number a) (count b) x y h m f g e = absurd (cc (h, m.0))
  same_view k role (count a) (number b) x y h m f g e = absurd (cc (h.0, m))
  same_view k role (flag a) (count b) x y h m f g e = absurd (cc (h, m.0))
  same_view k role (count a) (flag b) x y h m f g e = absurd (cc (h.0, m))

  -- the kind of the node and the item are all there is
  pub node_item : (i j : NodeItem) → i.kind ≡ j.kind → i.item ≡ j.item → i ≡ j
  node_item i j k e = ap (λ (x : KindView). of_node x i.item) k ∙ ap (λ (x : ItemView). of_node j.kind x) e

  pub same_at : (e : Entry) (i j : NodeItem) (x y : List ℕ) → IsAt s e i → IsAt s e j
      → spelled i ++ x ≡ spelled j ++ y → i ≡ j
  same_at e i j x y a b same =
      let k : KindView = kind_at s e.kind in
      let here : spelled_as k i.item ++ x ≡ spelled_as k j.item ++ y =
      ap (λ (z : KindView). spelled_as z i.item ++ x) (sym a.kind) ∙ same
      ∙ ap (λ (z : KindView). spelled_as z j.item ++ y) b.kind in
      node_item i j (a.kind ∙ sym b.kind)
      (same_view k e.role i.item j.item x y a.form b.form a.range b.range here)
