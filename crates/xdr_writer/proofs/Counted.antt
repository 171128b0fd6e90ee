-- Behind the count of an array of integers of one unit come so many numbers.
use Rattle.std.proofs.Common.{◌≡◌, ℕ, zero, suc, pos, ℤ, ◌&&◌, Bool, true, false, List, [], ◌∷◌, ◌++◌, length}
use Rattle.std.proofs.Common.{replicate, drop, refl, ap, sym, ◌∙◌, subst, arith, inl, inr, ◌⊎◌, append-nil}
use Rattle.std.proofs.Common.{append_assoc, length-append}
use Rattle.xdr_types.specs.Kinds as xdr
use Rattle.xdr_types.specs.Kinds.{KindView, Part, kind_at}
use Rattle.xdr_types.specs.Tree as value
use Rattle.xdr_types.specs.Tree.{Head, Values, Tree, from_list}
use Rattle.xdr_types.specs.Fits.{Fits, fit, is_legal, parts, item_part}
use Rattle.xdr_types.proofs.Unique.{both as parted}
use Rattle.xdr_laws.proofs.WholeUnits.{root_fits}
use Rattle.xdr_writer.specs.Items.{ItemView, number, flag, count, content, NodeItem, of_node}
use Rattle.xdr_writer.specs.ItemsOf.{own_items, fixed_content, node_items_in, node_items_of}
use Rattle.xdr_writer.specs.Represents.{word_kind, numbers_in}
use Rattle.xdr_writer.proofs.ItemsOf.{never}

-- ---- one item in a list

abbrev first_or : NodeItem → List NodeItem → NodeItem
first_or d [] = d
first_or d (i ∷ is) = i

none_there : (is : List NodeItem) (c : NodeItem) (r : List NodeItem) → [] ≡ is ++ c ∷ r → ⊥
none_there is c r e =
    let n : 0 ≡ length (is ++ c ∷ r) = ap (λ (z : List NodeItem). length z) e in
    absurd (omega (arith, n, length-append is (c ∷ r)))

alone : (x : NodeItem) (is : List NodeItem) (c : NodeItem) (r : List NodeItem) → x ∷ [] ≡ is ++ c ∷ r
    → (x ≡ c) × (r ≡ [])
alone x [] c r e = (ap (first_or x) e, sym (ap (λ (z : List NodeItem). drop 1 z) e))
alone x (i ∷ is) c r e = absurd (none_there is c r (ap (λ (z : List NodeItem). drop 1 z) e))

split : (xs ys is : List NodeItem) (c : NodeItem) (rest : List NodeItem) → xs ++ ys ≡ is ++ c ∷ rest
    → ((r : List NodeItem) × (xs ≡ is ++ c ∷ r) × (rest ≡ r ++ ys))
    ⊎ ((js : List NodeItem) × (ys ≡ js ++ c ∷ rest))
split [] ys is c rest e = inr (is, e)
split (x ∷ xs) ys [] c rest e =
    inl (
      xs,
      ap (λ (z : NodeItem). z ∷ xs) (ap (first_or x) e),
      sym (ap (λ (z : List NodeItem). drop 1 z) e),
    )
split (x ∷ xs) ys (i ∷ is) c rest e = elim (split xs ys is c rest (ap (λ (z : List NodeItem). drop 1 z) e)) [
  | inl h ↦ inl (
    h.0,
    ap (λ (z : NodeItem). z ∷ xs) (ap (first_or x) e) ∙ ap (λ (z : List NodeItem). i ∷ z) h.1,
    h.2,
  )
  | inr h ↦ inr h
]

-- ---- which item is a count

abbrev is_count : ItemView → Bool
is_count (count n) = true
is_count _ = false

abbrev counted_by : ItemView → ℕ
counted_by (count n) = n
counted_by _ = 0

abbrev part_or : KindView → ℕ
part_or (xdr.up_to part max) = part
part_or _ = 0

module _ (s : List KindView) (part max : ℕ) (signed : Bool) (word : kind_at s part ≡ word_kind signed) where
  abbrev node : KindView
  node = word_kind signed

  abbrev counts : ℕ → NodeItem
  counts n = of_node (xdr.up_to part max) (count n)

  -- so many numbers come first
  abbrev Follow : ℕ → List NodeItem → Type 0
  Follow n rest = (zs : List ℤ) × (more : List NodeItem) × (rest ≡ numbers_in node zs ++ more) × (length zs ≡ n)

  follow_more : (n : ℕ) (rest others : List NodeItem) → Follow n rest → Follow n (rest ++ others)
  follow_more n rest others h = (
    h.0,
    h.1 ++ others,
    ap (λ (z : List NodeItem). z ++ others) h.2 ∙ append_assoc (numbers_in node h.0) h.1 others,
    h.3,
  )

  word_of : (b : Bool) (h : Head) → is_legal s (word_kind b) h ≡ true
      → (z : ℤ) × (own_items (word_kind b) h ≡ of_node (word_kind b) (number z) ∷ []) × (parts (word_kind b) h ≡ [])
  word_of true (value.int z) l = (z, refl, refl)
  word_of false (value.unsigned n) l = (pos n, refl, refl)
  word_of true _ l = never l
  word_of false _ l = never l

  no_parts : (ps : List Part) (v : Values) → ps ≡ [] → node_items_in s ps v ≡ []
  no_parts [] value.none e = refl
  no_parts [] (value.node h inner rest) e = refl
  no_parts (p ∷ ps) v e =
      let n : length (p ∷ ps) ≡ 0 = ap (λ (z : List Part). length z) e in absurd (omega (arith, n))

  -- the items of an array of such numbers
  words_of : (n : ℕ) (v : Values) → fit s (replicate n (item_part part)) v ≡ true
      → (zs : List ℤ) × (node_items_in s (replicate n (item_part part)) v ≡ numbers_in node zs) × (length zs ≡ n)
  words_of zero value.none f = ([], refl, refl)
  words_of zero (value.node h inner rest) f = never f
  words_of (suc n) value.none f = never f
  words_of (suc n) (value.node h inner rest) f =
      let k : KindView = kind_at s part in
      let front = parted (is_legal s k h && fit s (parts k h) inner) (fit s (replicate n (item_part part)) rest) f in
      let legal = parted (is_legal s k h) (fit s (parts k h) inner) front.0 in
      let w = word_of signed h (subst (λ (x : KindView). is_legal s x h ≡ true) word legal.0) in
      let r = words_of n rest front.1 in
      let mine : own_items k h ≡ of_node node (number w.0) ∷ [] =
      ap (λ (x : KindView). own_items x h) word ∙ w.1 in
      let inside : node_items_in s (parts k h) inner ≡ [] =
      no_parts (parts k h) inner (ap (λ (x : KindView). parts x h) word ∙ w.2) in (
        w.0 ∷ r.0,
        ap (λ (z : List NodeItem). z ++ (node_items_in s (parts k h) inner
            ++ node_items_in s (replicate n (item_part part)) rest)) mine
            ∙ ap (λ (z : List NodeItem). of_node node (number w.0) ∷ (z
            ++ node_items_in s (replicate n (item_part part)) rest)) inside
            ∙ ap (λ (z : List NodeItem). of_node node (number w.0) ∷ z) r.1,
        omega (arith, r.2),
      )

  other_item : {A : Type 0} → (x : NodeItem) (is : List NodeItem) (n : ℕ) (r : List NodeItem)
      → is_count x.item ≡ false → x ∷ [] ≡ is ++ counts n ∷ r → A
  other_item x is n r other e =
      let same : x ≡ counts n = (alone x is (counts n) r e).0 in
      never (sym other ∙ ap (λ (i : NodeItem). is_count i.item) same)

  no_item : {A : Type 0} → (is : List NodeItem) (n : ℕ) (r : List NodeItem) → [] ≡ is ++ counts n ∷ r → A
  no_item is n r e = absurd (none_there is (counts n) r e)

  abbrev IsOwn : KindView → Head → ℕ → List NodeItem → Type 0
  IsOwn k h n r = (parts k h ≡ replicate n (item_part part)) × (r ≡ [])

  fixed_own : {A : Type 0} → (size : ℕ) (bs : List ℕ) (is : List NodeItem) (n : ℕ) (r : List NodeItem)
      → fixed_content (xdr.opaque size) bs ≡ is ++ counts n ∷ r → A
  fixed_own size [] is n r e = no_item is n r e
  fixed_own size (b ∷ bs) is n r e = other_item (of_node (xdr.opaque size) (content (b ∷ bs))) is n r refl e

  own_count : (k : KindView) (h : Head) → is_legal s k h ≡ true → (is : List NodeItem) (n : ℕ) (r : List NodeItem)
      → own_items k h ≡ is ++ counts n ∷ r → IsOwn k h n r
  own_count xdr.int (value.int z) l is n r e = other_item (of_node xdr.int (number z)) is n r refl e
  own_count xdr.unsigned (value.unsigned m) l is n r e =
      other_item (of_node xdr.unsigned (number (pos m))) is n r refl e
  own_count xdr.hyper (value.hyper z) l is n r e = other_item (of_node xdr.hyper (number z)) is n r refl e
  own_count xdr.unsigned_hyper (value.unsigned_hyper m) l is n r e =
      other_item (of_node xdr.unsigned_hyper (number (pos m))) is n r refl e
  own_count xdr.boolean (value.boolean b) l is n r e = other_item _ is n r refl e
  own_count (xdr.numbered constants) (value.numbered z) l is n r e =
      other_item (of_node (xdr.numbered constants) (number z)) is n r refl e
  own_count (xdr.opaque size) (value.bytes bs) l is n r e = fixed_own size bs is n r e
  own_count (xdr.opaque_up_to most) (value.bytes bs) l is n r e =
      other_item (of_node (xdr.opaque_up_to most) (content bs)) is n r refl e
  own_count (xdr.text most) (value.bytes bs) l is n r e =
      other_item (of_node (xdr.text most) (content bs)) is n r refl e
  own_count (xdr.fixed item size) (value.items m) l is n r e = no_item is n r e
  own_count (xdr.up_to item most) (value.items m) l is n r e =
      let a = alone (of_node (xdr.up_to item most) (count m)) is (counts n) r e in
      let many : m ≡ n = ap (λ (i : NodeItem). counted_by i.item) a.0 in
      let of : item ≡ part = ap (λ (i : NodeItem). part_or i.kind) a.0 in
      (ap (λ (x : ℕ). replicate x (item_part item)) many ∙ ap (λ (x : ℕ). replicate n (item_part x)) of, a.1)
  own_count (xdr.structure ps) value.fields l is n r e = no_item is n r e
  own_count (xdr.choice tag arms other) (value.tag z) l is n r e =
      other_item (of_node (xdr.choice tag arms other) (number z)) is n r refl e
  own_count (xdr.maybe item) value.present l is n r e = other_item (of_node (xdr.maybe item) (flag true)) is n r refl e
  own_count (xdr.maybe item) value.absent l is n r e = other_item (of_node (xdr.maybe item) (flag false)) is n r refl e
  own_count xdr.nothing value.nothing l is n r e = no_item is n r e
  own_count _ _ l is n r e = never l

  counted : (ps : List Part) (v : Values) → fit s ps v ≡ true → (is : List NodeItem) (n : ℕ) (rest : List NodeItem)
      → node_items_in s ps v ≡ is ++ counts n ∷ rest → Follow n rest
  counted [] value.none f is n rest e = no_item is n rest e
  counted [] (value.node h inner others) f is n rest e = never f
  counted (p ∷ ps) value.none f is n rest e = never f
  counted (p ∷ ps) (value.node h inner others) f is n rest e =
      let k : KindView = kind_at s p.kind in
      let front = parted (is_legal s k h && fit s (parts k h) inner) (fit s ps others) f in
      let legal = parted (is_legal s k h) (fit s (parts k h) inner) front.0 in
      let mine : List NodeItem = own_items k h in
      let inside : List NodeItem = node_items_in s (parts k h) inner in
      let after : List NodeItem = node_items_in s ps others in
      elim (split mine (inside ++ after) is (counts n) rest e) [
        | inl o ↦
            let is_own = own_count k h legal.0 is n o.0 o.1 in
            let fits : fit s (replicate n (item_part part)) inner ≡ true =
            subst (λ (x : List Part). fit s x inner ≡ true) is_own.0 legal.1 in
            let w = words_of n inner fits in
            let here : Follow n inside = (
              w.0,
              [],
              ap (λ (x : List Part). node_items_in s x inner) is_own.0 ∙ w.1 ∙ sym (append-nil (numbers_in node w.0)),
              w.2,
            ) in
            subst (λ (x : List NodeItem). Follow n x)
            (sym (o.2 ∙ ap (λ (x : List NodeItem). x ++ (inside ++ after)) is_own.1)) (follow_more n inside after here)
        | inr o ↦ elim (split inside after o.0 (counts n) rest o.1) [
          | inl i ↦ subst (λ (x : List NodeItem). Follow n x) (sym i.2)
              (follow_more n i.0 after (counted (parts k h) inner legal.1 o.0 n i.0 i.1))
          | inr j ↦ counted ps others front.1 j.0 n rest j.1
        ]
      ]

  -- in a value of a kind
  pub counted_of : (t : ℕ) (v : Tree) (is : List NodeItem) (n : ℕ) (rest : List NodeItem) → Fits s t v
      → node_items_of s t v ≡ is ++ counts n ∷ rest
      → (zs : List ℤ) × (more : List NodeItem) × (rest ≡ numbers_in (word_kind signed) zs ++ more) × (length zs ≡ n)
  counted_of t v is n rest f e =
      let k : KindView = kind_at s t in
      let root : List NodeItem = own_items k v.0 in
      let inner : List NodeItem = node_items_in s (parts k v.0) v.1 in
      counted (item_part t ∷ []) (from_list (v ∷ [])) (root_fits s t v f) is n rest
      (ap (λ (x : List NodeItem). root ++ x) (append-nil inner) ∙ e)
