-- What the values of kinds and of parts share, by their parts.
use Rattle.std.proofs.Common.{◌≡◌, ℕ, zero, suc, ◌+◌, ◌-◌, ◌*◌, ◌%◌, ◌^◌, ◌<◌, ◌≤◌, ◌==◌, ◌&&◌, ℤ, pos, negsuc, max}
use Rattle.std.proofs.Common.{List, [], ◌∷◌, ◌++◌, length, take, drop, replicate, Bool, true, false, nat_lt, ltb-true}
use Rattle.std.proofs.Common.{lt-ltb, refl, sym, ap, ◌∙◌, subst, arith, append-nil, IsTrue, eq-eqb, eqb-true}
use Rattle.std.specs.Int.{w32, w64, from_be_bytes, cast_unsigned}
use Rattle.std.proofs.lemmas.Nat.{be_bytes_4, be_bytes_8, mul-mod}
use Rattle.std.proofs.lemmas.Bool.{false≢true, and_parts as both, and_from as both_of}
use Rattle.std.proofs.lemmas.List.{length-append, length-drop, length-take-le, take-append-drop, length-replicate}
use Rattle.std.proofs.Math.Nat.{mul-suc, mul-zero, zero-mul}
use Rattle.xdr_units.specs.Numbers.{word, long_word, pad, gap, AreBytes}
use Rattle.xdr_units.proofs.Bytes.{byte_at, AreBytes-take, AreBytes-drop}
use Rattle.xdr_types.proofs.Content.{are_bytes_of}
use Rattle.xdr_types.specs.Kinds as xdr
use Rattle.xdr_types.specs.Kinds.{KindView, Part, Constant, kind_at}
use Rattle.xdr_types.specs.Tree as value
use Rattle.xdr_types.specs.Tree.{Head, Values, Tree, depth, depth_of}
use Rattle.xdr_types.specs.Fits.{fits, fit, is_legal, parts, item_part, are_bytes, is_signed}
use Rattle.xdr_types.specs.Spelling.{own, spelling, bytes_of}
use Rattle.xdr_types.specs.Extent.{IsBounded, IsExtent}
use Rattle.xdr_types.specs.Private.Notes.{Shares, IsOfParts, IsJoined, IsOpaque, IsRepeated, IsOver}
use Rattle.xdr_types.specs.declared.extent.Extent.{Extent}

abbrev extent : (bytes depth : ℕ) → Bool → Extent
extent n d f = record { bytes = n; depth = d; free = f }

pub bytes_are : (bs : List ℕ) → are_bytes bs ≡ true → AreBytes bs
bytes_are [] h = tt
bytes_are (b ∷ bs) h = let t = both (nat_lt b 256) (are_bytes bs) h in (ltb-true b 256 t.0, bytes_are bs t.1)

-- ---- four bytes are a number's, and eight

back4 : (bs : List ℕ) → length bs ≡ 4 → are_bytes bs ≡ true → word (from_be_bytes w32 bs) ≡ bs
back4 bs len are = be_bytes_4 bs (from_be_bytes w32 bs) len (byte_at bs (bytes_are bs are)) refl

less4 : (bs : List ℕ) → length bs ≡ 4 → AreBytes bs → from_be_bytes w32 bs < 2 ^ 32
less4 (a ∷ b ∷ c ∷ d ∷ []) len are = omega arith
less4 [] len are = absurd (omega arith)
less4 (a ∷ []) len are = absurd (omega arith)
less4 (a ∷ b ∷ []) len are = absurd (omega arith)
less4 (a ∷ b ∷ c ∷ []) len are = absurd (omega arith)
less4 (a ∷ b ∷ c ∷ d ∷ e ∷ u) len are = absurd (omega arith)

back8 : (bs : List ℕ) → length bs ≡ 8 → are_bytes bs ≡ true → long_word (from_be_bytes w64 bs) ≡ bs
back8 bs len are = be_bytes_8 bs (from_be_bytes w64 bs) len (byte_at bs (bytes_are bs are)) refl

less8 : (bs : List ℕ) → length bs ≡ 8 → AreBytes bs → from_be_bytes w64 bs < 2 ^ 64
less8 (a ∷ b ∷ c ∷ d ∷ e ∷ f ∷ g ∷ h ∷ []) len are = omega arith
less8 (a ∷ b ∷ c ∷ d ∷ e ∷ f ∷ g ∷ h ∷ i ∷ u) len are = absurd (omega arith)
less8 _ len are = absurd (omega arith)

-- a number as an integer of two's complement
signed4 : (x : ℕ) → x < 2 ^ 32 → (z : ℤ) × (is_signed (2 ^ 31) z ≡ true) × (cast_unsigned w32 z ≡ x)
signed4 x h = by_half (nat_lt x (2 ^ 31)) refl
  where
    by_half : (b : Bool) → nat_lt x (2 ^ 31) ≡ b
        → (z : ℤ) × (is_signed (2 ^ 31) z ≡ true) × (cast_unsigned w32 z ≡ x)
    by_half true e = (pos x, e, refl)
    by_half false e = (
      negsuc (2 ^ 32 - 1 - x),
      lt-ltb (2 ^ 32 - 1 - x) (2 ^ 31) (let above : 2 ^ 31 ≤ x = grind arith in omega arith),
      omega arith,
    )

signed8 : (x : ℕ) → x < 2 ^ 64 → (z : ℤ) × (is_signed (2 ^ 63) z ≡ true) × (cast_unsigned w64 z ≡ x)
signed8 x h = by_half (nat_lt x (2 ^ 63)) refl
  where
    by_half : (b : Bool) → nat_lt x (2 ^ 63) ≡ b
        → (z : ℤ) × (is_signed (2 ^ 63) z ≡ true) × (cast_unsigned w64 z ≡ x)
    by_half true e = (pos x, e, refl)
    by_half false e = (
      negsuc (2 ^ 64 - 1 - x),
      lt-ltb (2 ^ 64 - 1 - x) (2 ^ 63) (let above : 2 ^ 63 ≤ x = grind arith in omega arith),
      omega arith,
    )

-- ---- kinds without parts

-- what a kind's values share, by the kind itself
record Has (kinds : List KindView) (f : KindView) (e : Extent) : Type 0 where
  bytes : (h : Head) (vs : Values) → is_legal kinds f h ≡ true → fit kinds (parts f h) vs ≡ true
      → length (own f h ++ spelling kinds (parts f h) vs) ≡ e.bytes
  levels : (h : Head) (vs : Values) → is_legal kinds f h ≡ true → fit kinds (parts f h) vs ≡ true
      → depth_of vs + 1 ≡ e.depth
  free : IsTrue e.free → (bs : List ℕ) → length bs ≡ e.bytes → IsTrue (are_bytes bs)
      → (h : Head) × (vs : Values) × (is_legal kinds f h ≡ true) × (fit kinds (parts f h) vs ≡ true)
      × (own f h ++ spelling kinds (parts f h) vs ≡ bs)

of_kind : (kinds : List KindView) (place : ℕ) (f : KindView) (e : Extent) → place < length kinds
    → kind_at kinds place ≡ f → IsBounded e → Has kinds f e → IsExtent kinds place e
of_kind kinds place f e within is bounded has =
    let there : Has kinds (kind_at kinds place) e = subst (λ (g : KindView). Has kinds g e) (sym is) has in
    record {
      within = within;
      bounded = bounded;
      bytes = λ t h.
          let hs = both (is_legal kinds (kind_at kinds place) t.0)
          (fit kinds (parts (kind_at kinds place) t.0) t.1) h in
          there.bytes t.0 t.1 hs.0 hs.1;
      levels = λ t h.
          let hs = both (is_legal kinds (kind_at kinds place) t.0)
          (fit kinds (parts (kind_at kinds place) t.0) t.1) h in
          there.levels t.0 t.1 hs.0 hs.1;
      free = λ is_free bs len are.
          let found = there.free is_free bs len are in (
            (found.0, found.1),
            both_of (is_legal kinds (kind_at kinds place) found.0)
                (fit kinds (parts (kind_at kinds place) found.0) found.1) found.2 found.3,
            found.4,
          );
    }

-- what the values of a kind without parts share
record IsLeaf (kinds : List KindView) (f : KindView) (e : Extent) : Type 0 where
  bytes : (h : Head) → is_legal kinds f h ≡ true → length (own f h) ≡ e.bytes
  alone : (h : Head) → parts f h ≡ []
  level : e.depth ≡ 1
  free : IsTrue e.free → (bs : List ℕ) → length bs ≡ e.bytes → are_bytes bs ≡ true
      → (h : Head) × (is_legal kinds f h ≡ true) × (own f h ≡ bs)

no_values : (kinds : List KindView) (ps : List Part) (vs : Values) → ps ≡ [] → fit kinds ps vs ≡ true
    → (spelling kinds ps vs ≡ []) × (depth_of vs ≡ 0)
no_values kinds [] value.none e h = (refl, refl)
no_values kinds [] (value.node a b c) e h = absurd (false≢true h)
no_values kinds (p ∷ ps) vs e h = absurd cc

leaf : (kinds : List KindView) (f : KindView) (e : Extent) → IsLeaf kinds f e → Has kinds f e
leaf kinds f e of = record {
  bytes = λ h vs l fitting.
      ap length (ap (λ (x : List ℕ). own f h ++ x) (no_values kinds (parts f h) vs (of.alone h) fitting).0
      ∙ append-nil (own f h)) ∙ of.bytes h l;
  levels = λ h vs l fitting.
      ap (λ (n : ℕ). n + 1) (no_values kinds (parts f h) vs (of.alone h) fitting).1 ∙ sym of.level;
  free = λ is_free bs len are.
      let found = of.free is_free bs len are in
      let none_fit : fit kinds (parts f found.0) value.none ≡ true =
      subst (λ (ps : List Part). fit kinds ps value.none ≡ true) (sym (of.alone found.0)) refl in (
        found.0,
        value.none,
        found.1,
        none_fit,
        ap (λ (x : List ℕ). own f found.0 ++ x)
            (no_values kinds (parts f found.0) value.none (of.alone found.0) none_fit).0
            ∙ append-nil (own f found.0) ∙ found.2,
      );
}

int_leaf : (kinds : List KindView) → IsLeaf kinds xdr.int (extent 4 1 true)
int_leaf kinds = record { bytes = sized; alone = λ h. refl; level = refl; free = each }
  where
    sized : (h : Head) → is_legal kinds xdr.int h ≡ true → length (own xdr.int h) ≡ 4
    sized (value.int z) l = refl
    sized _ l = absurd (false≢true l)

    each : IsTrue true → (bs : List ℕ) → length bs ≡ 4 → are_bytes bs ≡ true
        → (h : Head) × (is_legal kinds xdr.int h ≡ true) × (own xdr.int h ≡ bs)
    each t bs len are =
        let z = signed4 (from_be_bytes w32 bs) (less4 bs len (bytes_are bs are)) in
        (value.int z.0, z.1, ap word z.2 ∙ back4 bs len are)

unsigned_leaf : (kinds : List KindView) → IsLeaf kinds xdr.unsigned (extent 4 1 true)
unsigned_leaf kinds = record { bytes = sized; alone = λ h. refl; level = refl; free = each }
  where
    sized : (h : Head) → is_legal kinds xdr.unsigned h ≡ true → length (own xdr.unsigned h) ≡ 4
    sized (value.unsigned n) l = refl
    sized _ l = absurd (false≢true l)

    each : IsTrue true → (bs : List ℕ) → length bs ≡ 4 → are_bytes bs ≡ true
        → (h : Head) × (is_legal kinds xdr.unsigned h ≡ true) × (own xdr.unsigned h ≡ bs)
    each t bs len are = (
      value.unsigned (from_be_bytes w32 bs),
      lt-ltb (from_be_bytes w32 bs) (2 ^ 32) (less4 bs len (bytes_are bs are)),
      back4 bs len are,
    )

hyper_leaf : (kinds : List KindView) → IsLeaf kinds xdr.hyper (extent 8 1 true)
hyper_leaf kinds = record { bytes = sized; alone = λ h. refl; level = refl; free = each }
  where
    sized : (h : Head) → is_legal kinds xdr.hyper h ≡ true → length (own xdr.hyper h) ≡ 8
    sized (value.hyper z) l = refl
    sized _ l = absurd (false≢true l)

    each : IsTrue true → (bs : List ℕ) → length bs ≡ 8 → are_bytes bs ≡ true
        → (h : Head) × (is_legal kinds xdr.hyper h ≡ true) × (own xdr.hyper h ≡ bs)
    each t bs len are =
        let z = signed8 (from_be_bytes w64 bs) (less8 bs len (bytes_are bs are)) in
        (value.hyper z.0, z.1, ap long_word z.2 ∙ back8 bs len are)

unsigned_hyper_leaf : (kinds : List KindView) → IsLeaf kinds xdr.unsigned_hyper (extent 8 1 true)
unsigned_hyper_leaf kinds = record { bytes = sized; alone = λ h. refl; level = refl; free = each }
  where
    sized : (h : Head) → is_legal kinds xdr.unsigned_hyper h ≡ true → length (own xdr.unsigned_hyper h) ≡ 8
    sized (value.unsigned_hyper n) l = refl
    sized _ l = absurd (false≢true l)

    each : IsTrue true → (bs : List ℕ) → length bs ≡ 8 → are_bytes bs ≡ true
        → (h : Head) × (is_legal kinds xdr.unsigned_hyper h ≡ true) × (own xdr.unsigned_hyper h ≡ bs)
    each t bs len are = (
      value.unsigned_hyper (from_be_bytes w64 bs),
      lt-ltb (from_be_bytes w64 bs) (2 ^ 64) (less8 bs len (bytes_are bs are)),
      back8 bs len are,
    )

boolean_leaf : (kinds : List KindView) → IsLeaf kinds xdr.boolean (extent 4 1 false)
boolean_leaf kinds =
    record { bytes = sized; alone = λ h. refl; level = refl; free = λ t bs len are. absurd (false≢true t) }
  where
    sized : (h : Head) → is_legal kinds xdr.boolean h ≡ true → length (own xdr.boolean h) ≡ 4
    sized (value.boolean b) l = refl
    sized _ l = absurd (false≢true l)

numbered_leaf : (kinds : List KindView) (cs : List Constant) → IsLeaf kinds (xdr.numbered cs) (extent 4 1 false)
numbered_leaf kinds cs =
    record { bytes = sized; alone = λ h. refl; level = refl; free = λ t bs len are. absurd (false≢true t) }
  where
    sized : (h : Head) → is_legal kinds (xdr.numbered cs) h ≡ true → length (own (xdr.numbered cs) h) ≡ 4
    sized (value.numbered z) l = refl
    sized _ l = absurd (false≢true l)

gap-none : (n : ℕ) → (n % 4 == 0) ≡ true → gap n ≡ 0
gap-none n h = let e : n % 4 ≡ 0 = eqb-true (n % 4) 0 h in omega arith

opaque_leaf : (kinds : List KindView) (size : ℕ) (e : Extent) → IsOpaque size e → IsLeaf kinds (xdr.opaque size) e
opaque_leaf kinds size e of = record { bytes = sized; alone = λ h. refl; level = of.depth; free = each }
  where
    sized : (h : Head) → is_legal kinds (xdr.opaque size) h ≡ true → length (own (xdr.opaque size) h) ≡ e.bytes
    sized (value.bytes bs) l =
        let len : length bs ≡ size = eqb-true (length bs) size (both (length bs == size) (are_bytes bs) l).0 in
        length-append bs (pad (length bs)) ∙ ap (λ (n : ℕ). n + length (pad n)) len
        ∙ ap (λ (n : ℕ). size + n) (length-replicate (gap size) 0) ∙ sym of.bytes
    sized _ l = absurd (false≢true l)

    each : IsTrue e.free → (bs : List ℕ) → length bs ≡ e.bytes → are_bytes bs ≡ true
        → (h : Head) × (is_legal kinds (xdr.opaque size) h ≡ true) × (own (xdr.opaque size) h ≡ bs)
    each is_free bs len are =
        let none : gap size ≡ 0 = gap-none size (sym of.free ∙ is_free) in
        let all : length bs ≡ size = omega (arith, len, of.bytes, none) in (
          value.bytes bs,
          both_of (length bs == size) (are_bytes bs) (eq-eqb (length bs) size all) are,
          ap (λ (n : ℕ). bs ++ replicate (gap n) 0) all ∙ ap (λ (n : ℕ). bs ++ replicate n 0) none ∙ append-nil bs,
        )

opaque_bounded : (size : ℕ) (e : Extent) → IsOpaque size e → IsBounded e
opaque_bounded size e of = record {
  some = omega (arith, of.some, of.bytes);
  most = omega (arith, of.most, of.bytes);
  units = omega (arith, of.bytes);
  low = omega (arith, of.depth);
  shallow = omega (arith, of.depth);
}

four : (f : Bool) → IsBounded (extent 4 1 f)
four f = record { some = omega arith; most = omega arith; units = refl; low = omega arith; shallow = omega arith }

eight : (f : Bool) → IsBounded (extent 8 1 f)
eight f = record { some = omega arith; most = omega arith; units = refl; low = omega arith; shallow = omega arith }

pub of_int : (kinds : List KindView) (place : ℕ) → place < length kinds → kind_at kinds place ≡ xdr.int
    → IsExtent kinds place (extent 4 1 true)
of_int kinds place within is =
    of_kind kinds place xdr.int _ within is (four true) (leaf kinds xdr.int _ (int_leaf kinds))

pub of_unsigned : (kinds : List KindView) (place : ℕ) → place < length kinds → kind_at kinds place ≡ xdr.unsigned
    → IsExtent kinds place (extent 4 1 true)
of_unsigned kinds place within is =
    of_kind kinds place xdr.unsigned _ within is (four true) (leaf kinds xdr.unsigned _ (unsigned_leaf kinds))

pub of_hyper : (kinds : List KindView) (place : ℕ) → place < length kinds → kind_at kinds place ≡ xdr.hyper
    → IsExtent kinds place (extent 8 1 true)
of_hyper kinds place within is =
    of_kind kinds place xdr.hyper _ within is (eight true) (leaf kinds xdr.hyper _ (hyper_leaf kinds))

pub of_unsigned_hyper : (kinds : List KindView) (place : ℕ) → place < length kinds
    → kind_at kinds place ≡ xdr.unsigned_hyper → IsExtent kinds place (extent 8 1 true)
of_unsigned_hyper kinds place within is = of_kind kinds place xdr.unsigned_hyper _ within is (eight true)
    (leaf kinds xdr.unsigned_hyper _ (unsigned_hyper_leaf kinds))

pub of_boolean : (kinds : List KindView) (place : ℕ) → place < length kinds → kind_at kinds place ≡ xdr.boolean
    → IsExtent kinds place (extent 4 1 false)
of_boolean kinds place within is =
    of_kind kinds place xdr.boolean _ within is (four false) (leaf kinds xdr.boolean _ (boolean_leaf kinds))

pub of_numbered : (kinds : List KindView) (place : ℕ) (cs : List Constant) → place < length kinds
    → kind_at kinds place ≡ xdr.numbered cs → IsExtent kinds place (extent 4 1 false)
of_numbered kinds place cs within is = of_kind kinds place (xdr.numbered cs) _ within is (four false)
    (leaf kinds (xdr.numbered cs) _ (numbered_leaf kinds cs))

pub of_opaque : (kinds : List KindView) (place size : ℕ) (e : Extent) → place < length kinds
    → kind_at kinds place ≡ xdr.opaque size → IsOpaque size e → IsExtent kinds place e
of_opaque kinds place size e within is of = of_kind kinds place (xdr.opaque size) e within is
    (opaque_bounded size e of) (leaf kinds (xdr.opaque size) e (opaque_leaf kinds size e of))

-- ---- parts one after another

-- no parts
pub no_parts : (kinds : List KindView) → IsOfParts kinds [] (extent 0 0 true)
no_parts kinds = record {
  shares = record { bytes = sized; levels = deep; free = each };
  most = omega arith;
  units = refl;
  shallow = omega arith;
}
  where
    sized : (vs : Values) → fit kinds [] vs ≡ true → length (spelling kinds [] vs) ≡ 0
    sized value.none h = refl
    sized (value.node a b c) h = absurd (false≢true h)

    deep : (vs : Values) → fit kinds [] vs ≡ true → depth_of vs ≡ 0
    deep value.none h = refl
    deep (value.node a b c) h = absurd (false≢true h)

    each : IsTrue true → (bs : List ℕ) → length bs ≡ 0 → IsTrue (are_bytes bs)
        → (vs : Values) × (fit kinds [] vs ≡ true) × (spelling kinds [] vs ≡ bs)
    each t [] len are = (value.none, refl, refl)
    each t (b ∷ bs) len are = absurd (omega (arith, len))

-- one part before others
first_shares : (kinds : List KindView) (p : Part) (ps : List Part) (a b r : Extent) → IsExtent kinds p.kind a
    → Shares kinds ps b → r.bytes ≡ a.bytes + b.bytes → r.depth ≡ max b.depth a.depth → r.free ≡ (a.free && b.free)
    → Shares kinds (p ∷ ps) r
first_shares kinds p ps a b r of others sum deepest all = record { bytes = sized; levels = deep; free = each }
  where
    split : (h : Head) (inner rest : Values) → fit kinds (p ∷ ps) (value.node h inner rest) ≡ true
        → (fits kinds p.kind (h, inner) ≡ true) × (fit kinds ps rest ≡ true)
    split h inner rest f = both (fits kinds p.kind (h, inner)) (fit kinds ps rest) f

    sized : (vs : Values) → fit kinds (p ∷ ps) vs ≡ true → length (spelling kinds (p ∷ ps) vs) ≡ r.bytes
    sized value.none f = absurd (false≢true f)
    sized (value.node h inner rest) f =
        let fs = split h inner rest f in
        let one : length (bytes_of kinds p.kind (h, inner)) ≡ a.bytes = of.bytes (h, inner) fs.0 in
        let more : length (spelling kinds ps rest) ≡ b.bytes = others.bytes rest fs.1 in
        length-append (bytes_of kinds p.kind (h, inner)) (spelling kinds ps rest) ∙ omega (arith, one, more, sum)

    deep : (vs : Values) → fit kinds (p ∷ ps) vs ≡ true → depth_of vs ≡ r.depth
    deep value.none f = absurd (false≢true f)
    deep (value.node h inner rest) f =
        let fs = split h inner rest f in
        let one : depth_of inner + 1 ≡ a.depth = of.levels (h, inner) fs.0 in
        let more : depth_of rest ≡ b.depth = others.levels rest fs.1 in
        ap (λ (n : ℕ). max (depth_of rest) n) one ∙ ap (λ (n : ℕ). max n a.depth) more ∙ sym deepest

    each : IsTrue r.free → (bs : List ℕ) → length bs ≡ r.bytes → IsTrue (are_bytes bs)
        → (vs : Values) × (fit kinds (p ∷ ps) vs ≡ true) × (spelling kinds (p ∷ ps) vs ≡ bs)
    each is_free bs len are =
        let frees = both a.free b.free (sym all ∙ is_free) in
        let some : a.bytes ≤ length bs = omega (arith, len, sum) in
        let front : length (take a.bytes bs) ≡ a.bytes = length-take-le a.bytes bs some in
        let back : length (drop a.bytes bs) ≡ b.bytes = omega (arith, length-drop a.bytes bs, len, sum) in
        let t = of.free frees.0 (take a.bytes bs) front
        (are_bytes_of (take a.bytes bs) (AreBytes-take a.bytes bs (bytes_are bs are))) in
        let vs = others.free frees.1 (drop a.bytes bs) back
        (are_bytes_of (drop a.bytes bs) (AreBytes-drop a.bytes bs (bytes_are bs are))) in (
          value.node t.0.0 t.0.1 vs.0,
          both_of (fits kinds p.kind t.0) (fit kinds ps vs.0) t.1 vs.1,
          ap (λ (x : List ℕ). x ++ spelling kinds ps vs.0) t.2 ∙ ap (λ (x : List ℕ). take a.bytes bs ++ x) vs.2
              ∙ take-append-drop a.bytes bs,
        )

pub part_before : (kinds : List KindView) (p : Part) (ps : List Part) (a b r : Extent) → IsExtent kinds p.kind a
    → IsOfParts kinds ps b → IsJoined a b r → IsOfParts kinds (p ∷ ps) r
part_before kinds p ps a b r of others by = record {
  shares = first_shares kinds p ps a b r of others.shares by.bytes by.depth by.free;
  most = by.most;
  units = omega (arith, of.bounded.units, others.units, by.bytes);
  shallow = omega (arith, of.bounded.shallow, others.shallow, by.depth);
}

-- so many parts of one kind
many_shares : (kinds : List KindView) (p : Part) (n : ℕ) (a r : Extent) → IsExtent kinds p.kind a
    → r.bytes ≡ a.bytes * suc n → r.depth ≡ a.depth → r.free ≡ a.free → Shares kinds (replicate (suc n) p) r
many_shares kinds p zero a r of sum deepest all =
    first_shares kinds p [] a (extent 0 0 true) r of (no_parts kinds).shares (omega (arith, sum))
    (omega (arith, deepest))
    (all ∙ sym (and-true a.free))
  where
    and-true : (b : Bool) → (b && true) ≡ b
    and-true true = refl
    and-true false = refl
many_shares kinds p (suc n) a r of sum deepest all =
    first_shares kinds p (replicate (suc n) p) a (extent (a.bytes * suc n) a.depth a.free) r of
    (many_shares kinds p n a (extent (a.bytes * suc n) a.depth a.free) of refl refl refl)
    (sum ∙ more a.bytes (suc n)) (omega (arith, deepest)) (all ∙ sym (and-itself a.free))
  where
    more : (m k : ℕ) → m * suc k ≡ m + m * k
    more m k = omega (arith, mul-suc m k)

    and-itself : (b : Bool) → (b && b) ≡ b
    and-itself true = refl
    and-itself false = refl

-- ---- kinds with parts

-- the extent of a structure, by what its fields share
pub of_structure : (kinds : List KindView) (place : ℕ) (ps : List Part) (a e : Extent) → place < length kinds
    → kind_at kinds place ≡ xdr.structure ps → IsOfParts kinds ps a → IsOver a e → IsExtent kinds place e
of_structure kinds place ps a e within is of by = of_kind kinds place (xdr.structure ps) e within is
    (record {
      some = by.some;
      most = omega (arith, of.most, by.bytes);
      units = omega (arith, of.units, by.bytes);
      low = omega (arith, by.depth);
      shallow = omega (arith, by.depth, by.shallow);
    }) (record { bytes = sized; levels = deep; free = each })
  where
    sized : (h : Head) (vs : Values) → is_legal kinds (xdr.structure ps) h ≡ true
        → fit kinds (parts (xdr.structure ps) h) vs ≡ true
        → length (own (xdr.structure ps) h ++ spelling kinds (parts (xdr.structure ps) h) vs) ≡ e.bytes
    sized value.fields vs l f = of.shares.bytes vs f ∙ sym by.bytes
    sized _ vs l f = absurd (false≢true l)

    deep : (h : Head) (vs : Values) → is_legal kinds (xdr.structure ps) h ≡ true
        → fit kinds (parts (xdr.structure ps) h) vs ≡ true → depth_of vs + 1 ≡ e.depth
    deep value.fields vs l f = ap (λ (n : ℕ). n + 1) (of.shares.levels vs f) ∙ sym by.depth
    deep _ vs l f = absurd (false≢true l)

    each : IsTrue e.free → (bs : List ℕ) → length bs ≡ e.bytes → IsTrue (are_bytes bs)
        → (h : Head) × (vs : Values) × (is_legal kinds (xdr.structure ps) h ≡ true)
        × (fit kinds (parts (xdr.structure ps) h) vs ≡ true)
        × (own (xdr.structure ps) h ++ spelling kinds (parts (xdr.structure ps) h) vs ≡ bs)
    each is_free bs len are =
        let vs = of.shares.free (sym by.free ∙ is_free) bs (len ∙ by.bytes) are in
        (value.fields, vs.0, refl, vs.1, vs.2)

-- the extent of a fixed array, by that of its item
pub of_fixed : (kinds : List KindView) (place item size : ℕ) (a e : Extent) → place < length kinds
    → kind_at kinds place ≡ xdr.fixed item size → IsExtent kinds item a → IsRepeated a size e → IsExtent kinds place e
of_fixed kinds place item zero a e within is of by = absurd (omega (arith, by.some, by.bytes))
of_fixed kinds place item (suc n) a e within is of by = of_kind kinds place (xdr.fixed item (suc n)) e within is
    (record {
      some = by.some;
      most = by.most;
      units = ap (λ (m : ℕ). m % 4) by.bytes ∙ whole_units a.bytes (suc n) of.bounded.units;
      low = omega (arith, by.depth);
      shallow = omega (arith, by.depth, by.shallow);
    }) (record { bytes = sized; levels = deep; free = each })
  where
    whole_units : (m k : ℕ) → m % 4 ≡ 0 → m * k % 4 ≡ 0
    whole_units m k h = mul-mod m k 4 ∙ ap (λ (x : ℕ). x * (k % 4) % 4) h ∙ ap (λ (x : ℕ). x % 4) (zero-mul (k % 4))

    shares : Shares kinds (replicate (suc n) (item_part item)) (extent e.bytes a.depth a.free)
    shares = many_shares kinds (item_part item) n a (extent e.bytes a.depth a.free) of by.bytes refl refl

    counted : (k : ℕ) (vs : Values) → (k == suc n) ≡ true → fit kinds (replicate k (item_part item)) vs ≡ true
        → fit kinds (replicate (suc n) (item_part item)) vs ≡ true
    counted k vs l f =
        subst (λ (m : ℕ). fit kinds (replicate m (item_part item)) vs ≡ true) (eqb-true k (suc n) l) f

    sized : (h : Head) (vs : Values) → is_legal kinds (xdr.fixed item (suc n)) h ≡ true
        → fit kinds (parts (xdr.fixed item (suc n)) h) vs ≡ true
        → length (own (xdr.fixed item (suc n)) h ++ spelling kinds (parts (xdr.fixed item (suc n)) h) vs) ≡ e.bytes
    sized (value.items k) vs l f =
        ap (λ (m : ℕ). length (spelling kinds (replicate m (item_part item)) vs)) (eqb-true k (suc n) l)
        ∙ shares.bytes vs (counted k vs l f)
    sized _ vs l f = absurd (false≢true l)

    deep : (h : Head) (vs : Values) → is_legal kinds (xdr.fixed item (suc n)) h ≡ true
        → fit kinds (parts (xdr.fixed item (suc n)) h) vs ≡ true → depth_of vs + 1 ≡ e.depth
    deep (value.items k) vs l f = ap (λ (m : ℕ). m + 1) (shares.levels vs (counted k vs l f)) ∙ sym by.depth
    deep _ vs l f = absurd (false≢true l)

    each : IsTrue e.free → (bs : List ℕ) → length bs ≡ e.bytes → IsTrue (are_bytes bs)
        → (h : Head) × (vs : Values) × (is_legal kinds (xdr.fixed item (suc n)) h ≡ true)
        × (fit kinds (parts (xdr.fixed item (suc n)) h) vs ≡ true)
        × (own (xdr.fixed item (suc n)) h ++ spelling kinds (parts (xdr.fixed item (suc n)) h) vs ≡ bs)
    each is_free bs len are =
        let vs = shares.free (sym by.free ∙ is_free) bs len are in
        (value.items (suc n), vs.0, eq-eqb (suc n) (suc n) refl, vs.1, vs.2)

-- the count of bytes of so many items
pub items_sized : (kinds : List KindView) (item : ℕ) (a : Extent) → IsExtent kinds item a → (n : ℕ) (vs : Values)
    → fit kinds (replicate n (item_part item)) vs ≡ true
    → length (spelling kinds (replicate n (item_part item)) vs) ≡ a.bytes * n
items_sized kinds item a of zero vs f = (no_parts kinds).shares.bytes vs f ∙ sym (mul-zero a.bytes)
items_sized kinds item a of (suc n) vs f =
    (many_shares kinds (item_part item) n a (extent (a.bytes * suc n) a.depth a.free) of refl refl refl).bytes vs f
