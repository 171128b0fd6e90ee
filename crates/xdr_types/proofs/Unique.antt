-- No spelling of a kind begins another, and the spelling determines the value.
use Rattle.std.proofs.Common.{◌≡◌, ◌↔◌, ℕ, ℤ, pos, negsuc, List, [], ◌∷◌, ◌++◌, length, true, false, ◌&&◌, refl}
use Rattle.std.proofs.Common.{ap, sym, ◌∙◌, subst, arith, append_assoc, append-nil, eqb-true, ltb-true, lt-ltb, nat_le}
use Rattle.std.proofs.Common.{nat_lt, ◌^◌}
use Rattle.std.proofs.lemmas.Bool.{false≢true}
pub use Rattle.std.proofs.lemmas.Bool.{and_parts as both}
use Rattle.xdr_units.proofs.Bytes.{same_front}
use Rattle.xdr_types.specs.Kinds as xdr
use Rattle.xdr_types.specs.Kinds.{KindView, Part, Branch, Constant, kind_at}
use Rattle.xdr_types.specs.Tree as value
use Rattle.xdr_types.specs.Tree.{Head, Values, Tree}
use Rattle.xdr_units.specs.Numbers.{num4, number_of, pad}
use Rattle.xdr_types.specs.Fits.{fit, fits, is_legal, is_tag_of, parts}
use Rattle.xdr_types.specs.Spelling.{spelling, own, bytes_of}
use Rattle.xdr_types.proofs.Numbers.{num4-front, num8-front, signed4, signed8, unsigned4, unsigned8, flags}

-- lists of one length before anything
-- bytes and their padding before anything
content : (a b x y : List ℕ) → length a ≡ length b → (a ++ pad (length a)) ++ x ≡ (b ++ pad (length b)) ++ y
    → (a ≡ b) × (x ≡ y)
content a b x y n e =
    let first = same_front a b (pad (length a) ++ x) (pad (length b) ++ y) n
    (sym (append_assoc a (pad (length a)) x) ∙ e ∙ append_assoc b (pad (length b)) y) in
    let second = same_front (pad (length a)) (pad (length b)) x y (ap (λ k. length (pad k)) n) first.1 in
    (first.0, second.1)

pub lengths : (m n max : ℕ) → nat_le m max && nat_lt m (2 ^ 32) ≡ true → nat_le n max && nat_lt n (2 ^ 32) ≡ true
    → num4 (pos m) ≡ num4 (pos n) → m ≡ n
lengths m n max h k e = unsigned4 m n (both _ _ h).1 (both _ _ k).1 e

-- a length, bytes and their padding before anything
counted : (max : ℕ) (a b x y : List ℕ) → nat_le (length a) max && nat_lt (length a) (2 ^ 32) ≡ true
    → nat_le (length b) max && nat_lt (length b) (2 ^ 32) ≡ true
    → (num4 (pos (length a)) ++ (a ++ pad (length a))) ++ x ≡ (num4 (pos (length b)) ++ (b ++ pad (length b))) ++ y
    → (a ≡ b) × (x ≡ y)
counted max a b x y h k e =
    let front = num4-front (pos (length a)) (pos (length b)) ((a ++ pad (length a)) ++ x)
    ((b ++ pad (length b)) ++ y) e in
    content a b x y (lengths (length a) (length b) max h k front.0) front.1

legal_tag : (f : KindView) (a b : ℤ) → is_tag_of f a ≡ true → is_tag_of f b ≡ true → num4 a ≡ num4 b → a ≡ b
legal_tag xdr.int a b h k e = signed4 a b h k e
legal_tag xdr.unsigned (pos m) (pos n) h k e = ap pos (unsigned4 m n h k e)
legal_tag xdr.unsigned (negsuc m) b h k e = absurd (false≢true h)
legal_tag xdr.unsigned a (negsuc n) h k e = absurd (false≢true k)
legal_tag xdr.boolean (pos m) (pos n) h k e =
    let below = ltb-true m 2 h in
    let below2 = ltb-true n 2 k in
    ap pos (unsigned4 m n (lt-ltb m (2 ^ 32) (omega arith)) (lt-ltb n (2 ^ 32) (omega arith)) e)
legal_tag xdr.boolean (negsuc m) b h k e = absurd (false≢true h)
legal_tag xdr.boolean a (negsuc n) h k e = absurd (false≢true k)
legal_tag (xdr.numbered cs) a b h k e = signed4 a b (both _ _ h).0 (both _ _ k).0 e
legal_tag _ a b h k e = absurd (false≢true h)

module _ (kinds : List KindView) where
  -- heads of one kind before anything
  pub one_head : (f : KindView) (g i : Head) (x y : List ℕ) → is_legal kinds f g ≡ true → is_legal kinds f i ≡ true
      → own f g ++ x ≡ own f i ++ y → (g ≡ i) × (x ≡ y)
  one_head xdr.int (value.int a) (value.int b) x y h k e = let front =
      num4-front a b x y e in (ap value.int (signed4 a b h k front.0), front.1)
  one_head xdr.int (value.int a) _ x y h k e = absurd (false≢true k)
  one_head xdr.int _ _ x y h k e = absurd (false≢true h)
  one_head xdr.unsigned (value.unsigned a) (value.unsigned b) x y h k e = let front =
      num4-front (pos a) (pos b) x y e in (ap value.unsigned (unsigned4 a b h k front.0), front.1)
  one_head xdr.unsigned (value.unsigned a) _ x y h k e = absurd (false≢true k)
  one_head xdr.unsigned _ _ x y h k e = absurd (false≢true h)
  one_head xdr.hyper (value.hyper a) (value.hyper b) x y h k e = let front =
      num8-front a b x y e in (ap value.hyper (signed8 a b h k front.0), front.1)
  one_head xdr.hyper (value.hyper a) _ x y h k e = absurd (false≢true k)
  one_head xdr.hyper _ _ x y h k e = absurd (false≢true h)
  one_head xdr.unsigned_hyper (value.unsigned_hyper a) (value.unsigned_hyper b) x y h k e = let front =
      num8-front (pos a) (pos b) x y e in (ap value.unsigned_hyper (unsigned8 a b h k front.0), front.1)
  one_head xdr.unsigned_hyper (value.unsigned_hyper a) _ x y h k e = absurd (false≢true k)
  one_head xdr.unsigned_hyper _ _ x y h k e = absurd (false≢true h)
  one_head xdr.boolean (value.boolean a) (value.boolean b) x y h k e = let front =
      num4-front (number_of a) (number_of b) x y e in (ap value.boolean (flags a b front.0), front.1)
  one_head xdr.boolean (value.boolean a) _ x y h k e = absurd (false≢true k)
  one_head xdr.boolean _ _ x y h k e = absurd (false≢true h)
  one_head (xdr.numbered cs) (value.numbered a) (value.numbered b) x y h k e = let front =
      num4-front a b x y e in (ap value.numbered (signed4 a b (both _ _ h).0 (both _ _ k).0 front.0), front.1)
  one_head (xdr.numbered cs) (value.numbered a) _ x y h k e = absurd (false≢true k)
  one_head (xdr.numbered cs) _ _ x y h k e = absurd (false≢true h)
  one_head (xdr.opaque size) (value.bytes a) (value.bytes b) x y h k e = let rest =
      content a b x y (eqb-true (length a) size (both _ _ h).0 ∙ sym (eqb-true (length b) size (both _ _ k).0)) e in
      (ap value.bytes rest.0, rest.1)
  one_head (xdr.opaque size) (value.bytes a) _ x y h k e = absurd (false≢true k)
  one_head (xdr.opaque size) _ _ x y h k e = absurd (false≢true h)
  one_head (xdr.opaque_up_to max) (value.bytes a) (value.bytes b) x y h k e = let rest =
      counted max a b x y (both _ _ h).0 (both _ _ k).0 e in (ap value.bytes rest.0, rest.1)
  one_head (xdr.opaque_up_to max) (value.bytes a) _ x y h k e = absurd (false≢true k)
  one_head (xdr.opaque_up_to max) _ _ x y h k e = absurd (false≢true h)
  one_head (xdr.text max) (value.bytes a) (value.bytes b) x y h k e = let rest =
      counted max a b x y (both _ _ h).0 (both _ _ k).0 e in (ap value.bytes rest.0, rest.1)
  one_head (xdr.text max) (value.bytes a) _ x y h k e = absurd (false≢true k)
  one_head (xdr.text max) _ _ x y h k e = absurd (false≢true h)
  one_head (xdr.fixed item size) (value.items a) (value.items b) x y h k e =
      (ap value.items (eqb-true a size h ∙ sym (eqb-true b size k)), e)
  one_head (xdr.fixed item size) (value.items a) _ x y h k e = absurd (false≢true k)
  one_head (xdr.fixed item size) _ _ x y h k e = absurd (false≢true h)
  one_head (xdr.up_to item max) (value.items a) (value.items b) x y h k e = let front =
      num4-front (pos a) (pos b) x y e in (ap value.items (lengths a b max h k front.0), front.1)
  one_head (xdr.up_to item max) (value.items a) _ x y h k e = absurd (false≢true k)
  one_head (xdr.up_to item max) _ _ x y h k e = absurd (false≢true h)
  one_head (xdr.choice tag arms other) (value.tag a) (value.tag b) x y h k e = let front =
      num4-front a b x y e in (
        ap value.tag
            (legal_tag (kind_at kinds tag) a b (both _ _ h).0 (both _ _ k).0 front.0),
        front.1,
      )
  one_head (xdr.choice tag arms other) (value.tag a) _ x y h k e = absurd (false≢true k)
  one_head (xdr.choice tag arms other) _ _ x y h k e = absurd (false≢true h)
  one_head (xdr.structure ps) value.fields value.fields x y h k e = (refl, e)
  one_head (xdr.structure ps) value.fields _ x y h k e = absurd (false≢true k)
  one_head (xdr.structure ps) _ _ x y h k e = absurd (false≢true h)
  one_head (xdr.maybe item) value.present value.present x y h k e = (refl, (num4-front (pos 1) (pos 1) x y e).1)
  one_head (xdr.maybe item) value.absent value.absent x y h k e = (refl, (num4-front (pos 0) (pos 0) x y e).1)
  one_head (xdr.maybe item) value.present value.absent x y h k e =
      absurd (false≢true (sym (flags true false (num4-front (pos 1) (pos 0) x y e).0)))
  one_head (xdr.maybe item) value.absent value.present x y h k e =
      absurd (false≢true (flags false true (num4-front (pos 0) (pos 1) x y e).0))
  one_head (xdr.maybe item) value.present _ x y h k e = absurd (false≢true k)
  one_head (xdr.maybe item) value.absent _ x y h k e = absurd (false≢true k)
  one_head (xdr.maybe item) _ _ x y h k e = absurd (false≢true h)
  one_head xdr.nothing value.nothing value.nothing x y h k e = (refl, e)
  one_head xdr.nothing value.nothing _ x y h k e = absurd (false≢true k)
  one_head xdr.nothing _ _ x y h k e = absurd (false≢true h)
  one_head xdr.unknown _ _ x y h k e = absurd (false≢true h)

  regroup : (a b c x : List ℕ) → ((a ++ b) ++ c) ++ x ≡ a ++ (b ++ (c ++ x))
  regroup a b c x = simp append_assoc

  -- values of one list of parts before anything
  pub one_each : (ps : List Part) (vs ws : Values) (x y : List ℕ) → fit kinds ps vs ≡ true → fit kinds ps ws ≡ true
      → spelling kinds ps vs ++ x ≡ spelling kinds ps ws ++ y → (vs ≡ ws) × (x ≡ y)
  one_each [] value.none value.none x y h k e = (refl, e)
  one_each (p ∷ ps) (value.node g inner rest) (value.node i inside more) x y h k e =
      let f = kind_at kinds p.kind in
      let hs = both (is_legal kinds f g && fit kinds (parts f g) inner) (fit kinds ps rest) h in
      let ks = both (is_legal kinds f i && fit kinds (parts f i) inside) (fit kinds ps more) k in
      let gs = both (is_legal kinds f g) (fit kinds (parts f g) inner) hs.0 in
      let js = both (is_legal kinds f i) (fit kinds (parts f i) inside) ks.0 in
      let reported = sym (regroup (own f g) (spelling kinds (parts f g) inner) (spelling kinds ps rest) x) ∙ e
      ∙ regroup (own f i) (spelling kinds (parts f i) inside) (spelling kinds ps more) y in
      let heads = one_head f g i (spelling kinds (parts f g) inner ++ (spelling kinds ps rest ++ x))
      (spelling kinds (parts f i) inside ++ (spelling kinds ps more ++ y)) gs.0 js.0 reported in
      let fit_inside : fit kinds (parts f g) inside ≡ true =
      subst (λ (j : Head). fit kinds (parts f j) inside ≡ true) (sym heads.0) js.1 in
      let reported_inside =
      heads.1 ∙ ap (λ (j : Head). spelling kinds (parts f j) inside ++ (spelling kinds ps more ++ y))
      (sym heads.0) in
      let inners = one_each (parts f g) inner inside (spelling kinds ps rest ++ x)
      (spelling kinds ps more ++ y) gs.1 fit_inside reported_inside in
      let rests = one_each ps rest more x y hs.1 ks.1 inners.1 in
      let alike : value.node g inner rest ≡ value.node i inside more = cc (heads.0, inners.0, rests.0) in
      (alike, rests.1)
  one_each [] value.none (value.node i inside more) x y h k e = absurd (false≢true k)
  one_each [] (value.node g inner rest) _ x y h k e = absurd (false≢true h)
  one_each (p ∷ ps) value.none _ x y h k e = absurd (false≢true h)
  one_each (p ∷ ps) (value.node g inner rest) value.none x y h k e = absurd (false≢true k)

  -- values of one kind before anything
  pub one : (place : ℕ) (t u : Tree) (x y : List ℕ) → fits kinds place t ≡ true → fits kinds place u ≡ true
      → bytes_of kinds place t ++ x ≡ bytes_of kinds place u ++ y → (t ≡ u) × (x ≡ y)
  one place t u x y h k e =
      let f = kind_at kinds place in
      let hs = both (is_legal kinds f t.0) (fit kinds (parts f t.0) t.1) h in
      let ks = both (is_legal kinds f u.0) (fit kinds (parts f u.0) u.1) k in
      let reported = sym (append_assoc (own f t.0) (spelling kinds (parts f t.0) t.1) x) ∙ e
      ∙ append_assoc (own f u.0) (spelling kinds (parts f u.0) u.1) y in
      let heads = one_head f t.0 u.0 (spelling kinds (parts f t.0) t.1 ++ x)
      (spelling kinds (parts f u.0) u.1 ++ y) hs.0 ks.0 reported in
      let fit_inside : fit kinds (parts f t.0) u.1 ≡ true =
      subst (λ (j : Head). fit kinds (parts f j) u.1 ≡ true) (sym heads.0) ks.1 in
      let reported_inside = heads.1 ∙ ap (λ (j : Head). spelling kinds (parts f j) u.1 ++ y) (sym heads.0) in
      let inners = one_each (parts f t.0) t.1 u.1 x y hs.1 fit_inside reported_inside in (
        ap (λ (j : Head). let v : Tree = (j, t.1) in v) heads.0
            ∙ ap (λ (vs : Values). let v : Tree = (u.0, vs) in v) inners.0,
        inners.1,
      )

  -- values of one kind are equal exactly if their bytes are
  pub equal : (place : ℕ) (t u : Tree) → fits kinds place t ≡ true → fits kinds place u ≡ true
      → (t ≡ u) ↔ (bytes_of kinds place t ≡ bytes_of kinds place u)
  equal place t u h k = (λ e. ap (bytes_of kinds place) e, λ e. (one place t u [] [] h k (ap (λ bs. bs ++ []) e)).0)

  -- nothing follows the bytes of one value to make those of another
  pub apart : (place : ℕ) (t u : Tree) (more : List ℕ) → fits kinds place t ≡ true → fits kinds place u ≡ true
      → bytes_of kinds place t ++ more ≡ bytes_of kinds place u → more ≡ []
  apart place t u more h k e = (one place t u more [] h k (e ∙ sym (append-nil (bytes_of kinds place u)))).1
