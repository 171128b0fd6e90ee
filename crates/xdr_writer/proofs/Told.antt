-- The parts of a value tell its items.
use Rattle.std.proofs.Common.{◌≡◌, ℕ, pos, ◌+◌, ◌&&◌, Bool, true, false, List, [], ◌∷◌, ◌++◌, length, take}
use Rattle.std.proofs.Common.{drop, refl, ap, sym, ◌∙◌, subst, arith, length-append, append-nil, append_assoc}
use Rattle.std.proofs.Common.{lt-ltb}
use Rattle.std.proofs.Math.Seq.{drop-append_seam, take-append_seam}
use Rattle.xdr_types.specs.Kinds as xdr
use Rattle.xdr_types.specs.Kinds.{KindView, Part, kind_at}
use Rattle.xdr_types.specs.Tree as value
use Rattle.xdr_types.specs.Tree.{Head, Values, Tree}
use Rattle.xdr_types.specs.Fits.{Fits, fit, is_legal, parts, item_part}
use Rattle.xdr_types.specs.Spelling.{own, spelling, bytes_of}
use Rattle.xdr_types.specs.Layout.{Entry, Role, entry, entries, layout, shown, of_number, of_flag, of_length}
use Rattle.xdr_types.specs.Layout.{of_content, of_group}
use Rattle.xdr_types.proofs.Unique.{both as parted}
use Rattle.xdr_laws.proofs.WholeUnits.{root_fits}
use Rattle.xdr_units.proofs.Bytes.{same_word, same_content}
use Rattle.xdr_units.specs.Numbers.{num4, num8, number_of, pad, padded}
use Rattle.xdr_writer.specs.Items.{ItemView, number, flag, count, content, NodeItem, items}
use Rattle.xdr_writer.specs.ItemsOf.{own_items, node_items_in, items_of}
use Rattle.xdr_writer.specs.Told.{has_item, part_bytes, IsToldBy, IsFirst, AreToldBy, PartsTellItems}
use Rattle.xdr_writer.proofs.ItemsOf.{never}
use Rattle.xdr_writer.proofs.Joined.{items_joined}
use Rattle.xdr_writer.proofs.Placed.{truth_range, tag_range, length_range}
use Rattle.xdr_writer.proofs.SameItem.{flags, numbers}

module _ (s : List KindView) (b : List ℕ) where
  abbrev Told : Entry → ItemView → Type 0
  Told e i = IsToldBy s (kind_at s e.kind) (part_bytes b e) e.role i

  abbrev Others : List Entry → List ItemView → Type 0
  Others es is = AreToldBy s b es is

  -- a part that has an item, and one that has none
  one : (e : Entry) (k : KindView) (i : ItemView) (es : List Entry) (is : List ItemView) → kind_at s e.kind ≡ k
      → has_item k e.role ≡ true → IsToldBy s k (part_bytes b e) e.role i → AreToldBy s b es is
      → AreToldBy s b (e ∷ es) (i ∷ is)
  one e k i es is at has told rest =
      subst (λ (h : Bool). IsFirst h (λ j. Told e j) (λ more. Others es more) (i ∷ is))
      (sym (ap (λ (x : KindView). has_item x e.role) at ∙ has))
      (subst (λ (x : KindView). IsToldBy s x (part_bytes b e) e.role i) (sym at) told, rest)

  none : (e : Entry) (k : KindView) (es : List Entry) (is : List ItemView) → kind_at s e.kind ≡ k
      → has_item k e.role ≡ false → AreToldBy s b es is → AreToldBy s b (e ∷ es) is
  none e k es is at has rest =
      subst (λ (h : Bool). IsFirst h (λ j. Told e j) (λ more. Others es more) is)
      (sym (ap (λ (x : KindView). has_item x e.role) at ∙ has)) rest

  -- what stands at a place
  here : (before u rest : List ℕ) (place : ℕ) → b ≡ before ++ (u ++ rest) → place ≡ length before
      → take (length u) (drop place b) ≡ u
  here before u rest place e at =
      ap (λ (n : ℕ). take (length u) (drop n b)) at ∙ ap (λ (x : List ℕ). take (length u) (drop (length before) x)) e
      ∙ ap (λ (x : List ℕ). take (length u) x) (drop-append_seam before (u ++ rest)) ∙ take-append_seam u rest

  -- content and the zeros behind it
  filled : (before bs rest : List ℕ) (place : ℕ) → b ≡ before ++ (padded bs ++ rest) → place ≡ length before
      → take (length bs + length (pad (length bs))) (drop place b) ≡ padded bs
  filled before bs rest place e at =
      ap (λ (n : ℕ). take n (drop place b)) (sym (length-append bs (pad (length bs))))
      ∙ here before (padded bs) rest place e at

  behind_length : (before w u rest : List ℕ) → b ≡ before ++ ((w ++ u) ++ rest) → b ≡ (before ++ w) ++ (u ++ rest)
  behind_length before w u rest e = e ∙ (simp append_assoc)

  counted : (p : Part) (k : KindView) (place d : ℕ) (bs before rest : List ℕ) → kind_at s p.kind ≡ k
      → has_item k of_length ≡ false → has_item k (of_content (length bs)) ≡ true
      → b ≡ before ++ ((num4 (pos (length bs)) ++ padded bs) ++ rest) → place ≡ length before → (es : List Entry)
      (is : List ItemView) → AreToldBy s b es is
      → AreToldBy s b (entry place 4 d p of_length
      ∷ entry (place + 4) (length bs + length (pad (length bs))) d p (of_content (length bs)) ∷ es) (content bs ∷ is)
  counted p k place d bs before rest at silent told e pl es is given =
      let w : List ℕ = num4 (pos (length bs)) in
      none (entry place 4 d p of_length) k
      (entry (place + 4) (length bs + length (pad (length bs))) d p (of_content (length bs)) ∷ es) (content bs ∷ is) at
      silent
      (one (entry (place + 4) (length bs + length (pad (length bs))) d p (of_content (length bs))) k (content bs) es is
      at
      told (
        refl,
        filled (before ++ w) bs rest (place + 4) (behind_length before w (padded bs) rest e)
            (omega (arith, pl, length-append before w)),
      ) given)

  own_told : (p : Part) (k : KindView) (h : Head) (place d : ℕ) (before rest : List ℕ) → kind_at s p.kind ≡ k
      → is_legal s k h ≡ true → b ≡ before ++ (own k h ++ rest) → place ≡ length before → (es : List Entry)
      (is : List ItemView) → AreToldBy s b es is
      → AreToldBy s b (shown place d p k h ++ es) (items (own_items k h) ++ is)
  own_told p xdr.int (value.int z) place d before rest at l e pl es is given =
      one (entry place 4 d p of_number) xdr.int (number z) es is at refl (refl, here before (num4 z) rest place e pl, l)
      given
  own_told p xdr.unsigned (value.unsigned n) place d before rest at l e pl es is given =
      one (entry place 4 d p of_number) xdr.unsigned (number (pos n)) es is at refl
      (refl, here before (num4 (pos n)) rest place e pl, l) given
  own_told p xdr.hyper (value.hyper z) place d before rest at l e pl es is given =
      one (entry place 8 d p of_number) xdr.hyper (number z) es is at refl
      (refl, here before (num8 z) rest place e pl, l) given
  own_told p xdr.unsigned_hyper (value.unsigned_hyper n) place d before rest at l e pl es is given =
      one (entry place 8 d p of_number) xdr.unsigned_hyper (number (pos n)) es is at refl
      (refl, here before (num8 (pos n)) rest place e pl, l) given
  own_told p xdr.boolean (value.boolean c) place d before rest at l e pl es is given =
      one (entry place 4 d p of_number) xdr.boolean (number (number_of c)) es is at refl
      (refl, here before (num4 (number_of c)) rest place e pl, truth_range c) given
  own_told p (xdr.numbered constants) (value.numbered z) place d before rest at l e pl es is given =
      one (entry place 4 d p of_number) (xdr.numbered constants) (number z) es is at refl
      (refl, here before (num4 z) rest place e pl, (parted _ _ l).0) given
  own_told p (xdr.opaque size) (value.bytes []) place d before rest at l e pl es is given =
      none (entry place 0 d p (of_content 0)) (xdr.opaque size) es is at refl given
  own_told p (xdr.opaque size) (value.bytes (x ∷ xs)) place d before rest at l e pl es is given =
      let bs : List ℕ = x ∷ xs in
      one (entry place (length bs + length (pad (length bs))) d p (of_content (length bs))) (xdr.opaque size)
      (content bs)
      es is at (lt-ltb 0 (length bs) (omega arith)) (refl, filled before bs rest place e pl) given
  own_told p (xdr.opaque_up_to max) (value.bytes bs) place d before rest at l e pl es is given =
      counted p (xdr.opaque_up_to max) place d bs before rest at refl refl e pl es is given
  own_told p (xdr.text max) (value.bytes bs) place d before rest at l e pl es is given =
      counted p (xdr.text max) place d bs before rest at refl refl e pl es is given
  own_told p (xdr.fixed item size) (value.items n) place d before rest at l e pl es is given =
      none (entry place 0 d p of_group) (xdr.fixed item size) es is at refl given
  own_told p (xdr.up_to item max) (value.items n) place d before rest at l e pl es is given =
      one (entry place 4 d p of_length) (xdr.up_to item max) (count n) es is at refl
      (refl, here before (num4 (pos n)) rest place e pl, length_range max n l) given
  own_told p (xdr.structure ps) value.fields place d before rest at l e pl es is given =
      none (entry place 0 d p of_group) (xdr.structure ps) es is at refl given
  own_told p (xdr.choice tag arms other) (value.tag z) place d before rest at l e pl es is given =
      one (entry place 4 d p of_number) (xdr.choice tag arms other) (number z) es is at refl
      (refl, here before (num4 z) rest place e pl, tag_range (kind_at s tag) z (parted _ _ l).0) given
  own_told p (xdr.maybe item) value.present place d before rest at l e pl es is given =
      one (entry place 4 d p of_flag) (xdr.maybe item) (flag true) es is at refl
      (refl, here before (num4 (pos 1)) rest place e pl) given
  own_told p (xdr.maybe item) value.absent place d before rest at l e pl es is given =
      one (entry place 4 d p of_flag) (xdr.maybe item) (flag false) es is at refl
      (refl, here before (num4 (pos 0)) rest place e pl) given
  own_told p xdr.nothing value.nothing place d before rest at l e pl es is given =
      none (entry place 0 d p of_group) xdr.nothing es is at refl given
  own_told p _ _ place d before rest at l e pl es is given = never l

  -- those of several nodes, each with its own parts
  told_all : (ps : List Part) (v : Values) (place d : ℕ) (before rest : List ℕ) → fit s ps v ≡ true
      → b ≡ before ++ (spelling s ps v ++ rest) → place ≡ length before → (es : List Entry) (is : List ItemView)
      → AreToldBy s b es is → AreToldBy s b (layout s place d ps v ++ es) (items (node_items_in s ps v) ++ is)
  told_all [] value.none place d before rest f e pl es is given = given
  told_all [] (value.node h inner others) place d before rest f e pl es is given = never f
  told_all (p ∷ ps) value.none place d before rest f e pl es is given = never f
  told_all (p ∷ ps) (value.node h inner others) place d before rest f e pl es is given =
      let k : KindView = kind_at s p.kind in
      let front = parted (is_legal s k h && fit s (parts k h) inner) (fit s ps others) f in
      let legal = parted (is_legal s k h) (fit s (parts k h) inner) front.0 in
      let o : List ℕ = own k h in
      let x : List ℕ = spelling s (parts k h) inner in
      let y : List ℕ = spelling s ps others in
      let next : ℕ = place + length o in
      let last : ℕ = place + length o + length x in
      let within : List Entry = layout s next (d + 1) (parts k h) inner in
      let behind : List Entry = layout s last d ps others in
      let m : List NodeItem = own_items k h in
      let n : List NodeItem = node_items_in s (parts k h) inner in
      let r : List NodeItem = node_items_in s ps others in
      let first : b ≡ before ++ (o ++ (x ++ (y ++ rest))) = e ∙ (simp append_assoc) in
      let second : b ≡ (before ++ o) ++ (x ++ (y ++ rest)) = first ∙ (simp append_assoc) in
      let third : b ≡ ((before ++ o) ++ x) ++ (y ++ rest) = second ∙ (simp append_assoc) in
      let c = told_all ps others last d ((before ++ o) ++ x) rest front.1 third
      (omega (arith, pl, length-append (before ++ o) x, length-append before o)) es is given in
      let a = told_all (parts k h) inner next (d + 1) (before ++ o) (y ++ rest) legal.1 second
      (omega (arith, pl, length-append before o)) (behind ++ es) (items r ++ is) c in
      let z = own_told p k h place d before (x ++ (y ++ rest)) refl legal.0 first pl (within ++ (behind ++ es))
      (items n ++ (items r ++ is)) a in
      let entries_are : shown place d p k h ++ (within ++ (behind ++ es))
      ≡ (shown place d p k h ++ (within ++ behind)) ++ es = simp append_assoc in
      let items_are : items m ++ (items n ++ (items r ++ is)) ≡ items (m ++ (n ++ r)) ++ is =
      (simp append_assoc)
      ∙ ap (λ (w : List ItemView). (items m ++ w) ++ is) (sym (items_joined n r))
      ∙ ap (λ (w : List ItemView). w ++ is) (sym (items_joined m (n ++ r))) in
      subst (λ (w : List ItemView). AreToldBy s b ((shown place d p k h ++ (within ++ behind)) ++ es) w) items_are
      (subst (λ (w : List Entry). AreToldBy s b w (items m ++ (items n ++ (items r ++ is)))) entries_are z)

parts_tell : (s : List KindView) (t : ℕ) (v : Tree) → Fits s t v
    → AreToldBy s (bytes_of s t v) (entries s t v) (items_of s t v)
parts_tell s t v f =
    let b : List ℕ = bytes_of s t v in
    let m : List NodeItem = own_items (kind_at s t) v.0 in
    let n : List NodeItem = node_items_in s (parts (kind_at s t) v.0) v.1 in
    let all = told_all s b (item_part t ∷ []) (value.node v.0 v.1 value.none) 0 1 [] [] (root_fits s t v f)
    (sym (append-nil (b ++ []) ∙ append-nil b)) refl [] [] refl in
    let items_are : items (m ++ (n ++ [])) ++ [] ≡ items (m ++ n) =
    append-nil (items (m ++ (n ++ []))) ∙ ap (λ (x : List NodeItem). items (m ++ x)) (append-nil n) in
    subst (λ (x : List ItemView). AreToldBy s b (entries s t v) x) items_are
    (subst (λ (x : List Entry). AreToldBy s b x (items (m ++ (n ++ [])) ++ [])) (append-nil (entries s t v)) all)

-- ---- no others

abbrev count_of : Role → ℕ
count_of (of_content n) = n
count_of _ = 0

told_once : (s : List KindView) (k : KindView) (part : List ℕ) (role : Role) (i j : ItemView)
    → IsToldBy s k part role i → IsToldBy s k part role j → i ≡ j
told_once s k part role (number y) (number z) a c =
    ap number (numbers s k y z [] [] a.2 c.2 (ap (λ (x : List ℕ). x ++ []) (sym a.1 ∙ c.1)))
told_once s k part role (flag y) (flag z) a c = ap flag (flags y z [] [] (ap (λ (x : List ℕ). x ++ []) (sym a.1 ∙ c.1)))
told_once s k part role (count y) (count z) a c =
    ap count (same_word y z [] [] a.2 c.2 (ap (λ (x : List ℕ). x ++ []) (sym a.1 ∙ c.1))).0
told_once s k part role (content y) (content z) a c =
    ap content (same_content y z [] [] (ap count_of (sym a.0 ∙ c.0)) (ap (λ (x : List ℕ). x ++ []) (sym a.1 ∙ c.1))).0
told_once s k part role (number y) (flag z) a c = absurd (cc (a.0, c.0))
told_once s k part role (number y) (count z) a c = absurd (cc (a.0, c.0))
told_once s k part role (number y) (content z) a c = absurd (cc (a.0, c.0))
told_once s k part role (flag y) (number z) a c = absurd (cc (a.0, c.0))
told_once s k part role (flag y) (count z) a c = absurd (cc (a.0, c.0))
told_once s k part role (flag y) (content z) a c = absurd (cc (a.0, c.0))
told_once s k part role (count y) (number z) a c = absurd (cc (a.0, c.0))
told_once s k part role (count y) (flag z) a c = absurd (cc (a.0, c.0))
told_once s k part role (count y) (content z) a c = absurd (cc (a.0, c.0))
told_once s k part role (content y) (number z) a c = absurd (cc (a.0, c.0))
told_once s k part role (content y) (flag z) a c = absurd (cc (a.0, c.0))
told_once s k part role (content y) (count z) a c = absurd (cc (a.0, c.0))

first_once : (has : Bool) (Is : ItemView → Type 0) (Rest : List ItemView → Type 0)
    → ((i j : ItemView) → Is i → Is j → i ≡ j) → ((is js : List ItemView) → Rest is → Rest js → is ≡ js)
    → (is js : List ItemView) → IsFirst has Is Rest is → IsFirst has Is Rest js → is ≡ js
first_once false Is Rest once rest is js a c = rest is js a c
first_once true Is Rest once rest [] js a c = absurd a
first_once true Is Rest once rest (i ∷ is) [] a c = absurd c
first_once true Is Rest once rest (i ∷ is) (j ∷ js) a c =
    ap (λ (x : ItemView). x ∷ is) (once i j a.0 c.0) ∙ ap (λ (xs : List ItemView). j ∷ xs) (rest is js a.1 c.1)

one_list : (s : List KindView) (b : List ℕ) (es : List Entry) (is js : List ItemView) → AreToldBy s b es is
    → AreToldBy s b es js → is ≡ js
one_list s b [] is js a c = a ∙ sym c
one_list s b (e ∷ es) is js a c =
    let k : KindView = kind_at s e.kind in
    first_once (has_item k e.role) (λ i. IsToldBy s k (part_bytes b e) e.role i) (λ more. AreToldBy s b es more)
    (λ i j x y. told_once s k (part_bytes b e) e.role i j x y) (λ xs ys x y. one_list s b es xs ys x y) is js a c

pub parts_tell_items : (s : List KindView) → PartsTellItems s
parts_tell_items s = record {
  items = λ t v f. parts_tell s t v f;
  only = λ t v is f a. one_list s (bytes_of s t v) (entries s t v) is (items_of s t v) a (parts_tell s t v f);
}
