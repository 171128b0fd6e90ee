-- The items of a value and its encoding.
use Rattle.std.proofs.Common.{◌≡◌, ℕ, pos, ◌&&◌, ◌≤◌, true, false, List, [], ◌∷◌, ◌++◌, length, refl, ap, sym, ◌∙◌}
use Rattle.std.proofs.Common.{append-nil, append_assoc, arith, length-append}
use Rattle.std.proofs.lemmas.Bool.{false≢true}
use Rattle.xdr_types.specs.Kinds as xdr
use Rattle.xdr_types.specs.Kinds.{KindView, Part, kind_at}
use Rattle.xdr_types.specs.Tree as value
use Rattle.xdr_types.specs.Tree.{Head, Values, Tree}
use Rattle.xdr_types.specs.Fits.{Fits, fit, is_legal, parts}
use Rattle.xdr_types.specs.Spelling.{own, spelling}
use Rattle.xdr_types.proofs.Unique.{both as parted}
use Rattle.xdr_units.specs.Numbers.{num4, num8, number_of, padded}
use Rattle.xdr_writer.specs.Items.{NodeItem, all_spelled}
use Rattle.xdr_writer.specs.ItemsOf.{own_items, fixed_content, node_items_in, node_items_of}
use Rattle.xdr_writer.specs.Laws.{ItemsJoin}
use Rattle.xdr_writer.proofs.Joined.{joined, AreSome, some_joined, some_padded}

pub never : {A : Type 0} → false ≡ true → A
never e = absurd (false≢true e)

fixed : (size : ℕ) (bs : List ℕ) → all_spelled (fixed_content (xdr.opaque size) bs) ≡ padded bs
fixed size [] = refl
fixed size (b ∷ bs) = append-nil (padded (b ∷ bs))

some_fixed : (size : ℕ) (bs : List ℕ) → AreSome (fixed_content (xdr.opaque size) bs)
some_fixed size [] = tt
some_fixed size (b ∷ bs) = (some_padded b bs, tt)

both : (a b : List ℕ) (c d : List ℕ) → a ≡ b → c ≡ d → a ++ c ≡ b ++ d
both a b c d e f = ap (λ (z : List ℕ). z ++ c) e ∙ ap (λ (z : List ℕ). b ++ z) f

some_counted : (bs : List ℕ) → 4 ≤ length (num4 (pos (length bs)) ++ padded bs)
some_counted bs = omega (arith, length-append (num4 (pos (length bs))) (padded bs))

module _ (s : List KindView) where
  pub own_spelled : (f : KindView) (h : Head) → is_legal s f h ≡ true → all_spelled (own_items f h) ≡ own f h
  own_spelled xdr.int (value.int z) l = append-nil (num4 z)
  own_spelled xdr.unsigned (value.unsigned n) l = append-nil (num4 (pos n))
  own_spelled xdr.hyper (value.hyper z) l = append-nil (num8 z)
  own_spelled xdr.unsigned_hyper (value.unsigned_hyper n) l = append-nil (num8 (pos n))
  own_spelled xdr.boolean (value.boolean b) l = append-nil (num4 (number_of b))
  own_spelled (xdr.numbered constants) (value.numbered z) l = append-nil (num4 z)
  own_spelled (xdr.opaque size) (value.bytes bs) l = fixed size bs
  own_spelled (xdr.opaque_up_to max) (value.bytes bs) l = append-nil (num4 (pos (length bs)) ++ padded bs)
  own_spelled (xdr.text max) (value.bytes bs) l = append-nil (num4 (pos (length bs)) ++ padded bs)
  own_spelled (xdr.fixed item size) (value.items n) l = refl
  own_spelled (xdr.up_to item max) (value.items n) l = append-nil (num4 (pos n))
  own_spelled (xdr.structure ps) value.fields l = refl
  own_spelled (xdr.choice tag arms other) (value.tag z) l = append-nil (num4 z)
  own_spelled (xdr.maybe item) value.present l = append-nil (num4 (pos 1))
  own_spelled (xdr.maybe item) value.absent l = append-nil (num4 (pos 0))
  own_spelled xdr.nothing value.nothing l = refl
  own_spelled _ _ l = never l

  some_own : (f : KindView) (h : Head) → is_legal s f h ≡ true → AreSome (own_items f h)
  some_own xdr.int (value.int z) l = (omega arith, tt)
  some_own xdr.unsigned (value.unsigned n) l = (omega arith, tt)
  some_own xdr.hyper (value.hyper z) l = (omega arith, tt)
  some_own xdr.unsigned_hyper (value.unsigned_hyper n) l = (omega arith, tt)
  some_own xdr.boolean (value.boolean true) l = (omega arith, tt)
  some_own xdr.boolean (value.boolean false) l = (omega arith, tt)
  some_own (xdr.numbered constants) (value.numbered z) l = (omega arith, tt)
  some_own (xdr.opaque size) (value.bytes bs) l = some_fixed size bs
  some_own (xdr.opaque_up_to max) (value.bytes bs) l = (some_counted bs, tt)
  some_own (xdr.text max) (value.bytes bs) l = (some_counted bs, tt)
  some_own (xdr.fixed item size) (value.items n) l = tt
  some_own (xdr.up_to item max) (value.items n) l = (omega arith, tt)
  some_own (xdr.structure ps) value.fields l = tt
  some_own (xdr.choice tag arms other) (value.tag z) l = (omega arith, tt)
  some_own (xdr.maybe item) value.present l = (omega arith, tt)
  some_own (xdr.maybe item) value.absent l = (omega arith, tt)
  some_own xdr.nothing value.nothing l = tt
  some_own _ _ l = never l

  pub spelled_all : (ps : List Part) (v : Values) → fit s ps v ≡ true
      → all_spelled (node_items_in s ps v) ≡ spelling s ps v
  spelled_all [] value.none f = refl
  spelled_all [] (value.node h inner rest) f = never f
  spelled_all (p ∷ ps) value.none f = never f
  spelled_all (p ∷ ps) (value.node h inner rest) f =
      let k : KindView = kind_at s p.kind in
      let front = parted (is_legal s k h && fit s (parts k h) inner) (fit s ps rest) f in
      let legal = parted (is_legal s k h) (fit s (parts k h) inner) front.0 in
      let x : List NodeItem = own_items k h in
      let y : List NodeItem = node_items_in s (parts k h) inner in
      let z : List NodeItem = node_items_in s ps rest in
      joined x (y ++ z)
      ∙ both (all_spelled x) (own k h) (all_spelled (y ++ z)) (spelling s (parts k h) inner ++ spelling s ps rest)
      (own_spelled k h legal.0)
      (joined y z ∙ both (all_spelled y) (spelling s (parts k h) inner) (all_spelled z) (spelling s ps rest)
      (spelled_all (parts k h) inner legal.1) (spelled_all ps rest front.1))
      ∙ sym (append_assoc (own k h) (spelling s (parts k h) inner) (spelling s ps rest))

  some_all : (ps : List Part) (v : Values) → fit s ps v ≡ true → AreSome (node_items_in s ps v)
  some_all [] value.none f = tt
  some_all [] (value.node h inner rest) f = never f
  some_all (p ∷ ps) value.none f = never f
  some_all (p ∷ ps) (value.node h inner rest) f =
      let k : KindView = kind_at s p.kind in
      let front = parted (is_legal s k h && fit s (parts k h) inner) (fit s ps rest) f in
      let legal = parted (is_legal s k h) (fit s (parts k h) inner) front.0 in
      some_joined (own_items k h) (node_items_in s (parts k h) inner ++ node_items_in s ps rest)
      (some_own k h legal.0)
      (some_joined (node_items_in s (parts k h) inner) (node_items_in s ps rest)
      (some_all (parts k h) inner legal.1) (some_all ps rest front.1))

  pub items_join : ItemsJoin s
  items_join t v f =
      let k : KindView = kind_at s t in
      let legal = parted (is_legal s k v.0) (fit s (parts k v.0) v.1) f in
      let inner : List NodeItem = node_items_in s (parts k v.0) v.1 in
      joined (own_items k v.0) inner
      ∙ both (all_spelled (own_items k v.0)) (own k v.0) (all_spelled inner) (spelling s (parts k v.0) v.1)
      (own_spelled k v.0 legal.0) (spelled_all (parts k v.0) v.1 legal.1)

  -- each item of a value has bytes
  pub some_of : (t : ℕ) (v : Tree) → Fits s t v → AreSome (node_items_of s t v)
  some_of t v f =
      let k : KindView = kind_at s t in
      let legal = parted (is_legal s k v.0) (fit s (parts k v.0) v.1) f in
      some_joined (own_items k v.0) (node_items_in s (parts k v.0) v.1) (some_own k v.0 legal.0)
      (some_all (parts k v.0) v.1 legal.1)
