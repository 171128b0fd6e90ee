-- Whether values fit and are so deep at most, one after another and one below another.
use Rattle.std.proofs.Common.{◌≡◌, ℕ, ◌+◌, ◌-◌, ◌<◌, ◌≤◌, max, List, [], ◌∷◌, Bool, true, false, ◌&&◌}
use Rattle.std.proofs.Common.{nat_le, leb-true, leb-false, le-leb, refl, sym, ap, ◌∙◌, arith}
use Rattle.xdr_types.specs.Kinds.{KindView, Part, kind_at}
use Rattle.xdr_types.specs.Tree.{Head, Tree, Values, node, from_list, depth, depth_of}
use Rattle.xdr_types.specs.Fits.{fits, fit, is_legal, parts}
use Rattle.xdr_types.specs.Private.Judged.{fits_within, fit_within}

nat_le-max : (a b m : ℕ) → nat_le (max a b) m ≡ (nat_le a m && nat_le b m)
nat_le-max a b m = by_tests (nat_le (max a b) m) (nat_le a m) (nat_le b m) refl refl refl
  where
    by_tests : (x y z : Bool) → nat_le (max a b) m ≡ x → nat_le a m ≡ y → nat_le b m ≡ z → x ≡ (y && z)
    by_tests true true true p q r = refl
    by_tests true true false p q r =
        let h : max a b ≤ m = leb-true _ _ p in let k : m < b = leb-false _ _ r in absurd (omega arith)
    by_tests true false z p q r =
        let h : max a b ≤ m = leb-true _ _ p in let k : m < a = leb-false _ _ q in absurd (omega arith)
    by_tests false true true p q r =
        let h : m < max a b = leb-false _ _ p in let k : a ≤ m = leb-true _ _ q in
        let l : b ≤ m = leb-true _ _ r in absurd (omega arith)
    by_tests false true false p q r = refl
    by_tests false false z p q r = refl

shuffled : (a b c d : Bool) → ((a && b) && (c && d)) ≡ ((a && d) && (b && c))
shuffled true true true true = refl
shuffled true true true false = refl
shuffled true true false true = refl
shuffled true true false false = refl
shuffled true false c true = refl
shuffled true false c false = refl
shuffled false b c d = refl

-- the first of the values, and the rest
pub first-within : (kinds : List KindView) (p : Part) (ps qs : List Part) (t : Tree) (vs ws : Values) (most : ℕ)
    → qs ≡ p ∷ ps → ws ≡ node t.0 t.1 vs
    → fit_within kinds qs ws most ≡ (fits_within kinds p.kind t most && fit_within kinds ps vs most)
first-within kinds p ps qs t vs ws most qe we =
    ap (λ (z : List Part). fit_within kinds z ws most) qe
    ∙ ap (λ (z : Values). fit_within kinds (p ∷ ps) z most) we
    ∙ ap (λ (b : Bool). (fits kinds p.kind t && fit kinds ps vs) && b) (nat_le-max (depth_of vs) (depth t) most)
    ∙ shuffled (fits kinds p.kind t) (fit kinds ps vs) (nat_le (depth_of vs) most) (nat_le (depth t) most)

-- where the first is too deep or does not fit, so are they all
pub none-within : (kinds : List KindView) (p : Part) (ps qs : List Part) (t : Tree) (vs ws : Values) (most : ℕ)
    (whole : Bool) → qs ≡ p ∷ ps → ws ≡ node t.0 t.1 vs → fit_within kinds qs ws most ≡ whole
    → fits_within kinds p.kind t most ≡ false → false ≡ whole
none-within kinds p ps qs t vs ws most whole qe we all one =
    sym (ap (λ (b : Bool). b && fit_within kinds ps vs most) one)
    ∙ sym (first-within kinds p ps qs t vs ws most qe we) ∙ all

-- where the first is within, the rest decides
pub rest-within : (kinds : List KindView) (p : Part) (ps qs : List Part) (t : Tree) (vs ws : Values) (most : ℕ)
    (whole : Bool) → qs ≡ p ∷ ps → ws ≡ node t.0 t.1 vs → fit_within kinds qs ws most ≡ whole
    → fits_within kinds p.kind t most ≡ true → fit_within kinds ps vs most ≡ whole
rest-within kinds p ps qs t vs ws most whole qe we all one =
    sym (ap (λ (b : Bool). b && fit_within kinds ps vs most) one)
    ∙ sym (first-within kinds p ps qs t vs ws most qe we) ∙ all

one-less : (n most : ℕ) → 0 < most → nat_le (n + 1) most ≡ nat_le n (most - 1)
one-less n most some = by_test (nat_le n (most - 1)) refl
  where
    by_test : (b : Bool) → nat_le n (most - 1) ≡ b → nat_le (n + 1) most ≡ b
    by_test true e = let h : n ≤ most - 1 = leb-true _ _ e in le-leb (n + 1) most (omega arith)
    by_test false e = let h : most - 1 < n = leb-false _ _ e in above (nat_le (n + 1) most) refl h
      where
        above : (b : Bool) → nat_le (n + 1) most ≡ b → most - 1 < n → b ≡ false
        above true e h = let k : n + 1 ≤ most = leb-true _ _ e in absurd (omega arith)
        above false e h = refl

-- a node with one part
pub one-below : (kinds : List KindView) (place : ℕ) (u : Tree) (h : Head) (p : Part) (t : Tree) (most : ℕ) → 0 < most
    → u ≡ (h, from_list (t ∷ [])) → is_legal kinds (kind_at kinds place) h ≡ true
    → parts (kind_at kinds place) h ≡ p ∷ []
    → fits_within kinds p.kind t (most - 1) ≡ fits_within kinds place u most
one-below kinds place u h p t most some is legal has =
    sym (ap (λ (z : Tree). fits_within kinds place z most) is
    ∙ ap (λ (b : Bool). (b && fit kinds (parts (kind_at kinds place) h) (from_list (t ∷ [])))
    && nat_le (depth (h, from_list (t ∷ []))) most) legal
    ∙ ap (λ (ps : List Part). fit kinds ps (from_list (t ∷ [])) && nat_le (depth (h, from_list (t ∷ []))) most) has
    ∙ ap (λ (b : Bool). b && nat_le (depth (h, from_list (t ∷ []))) most) (and-true (fits kinds p.kind t))
    ∙ ap (λ (n : ℕ). fits kinds p.kind t && nat_le (n + 1) most) deep
    ∙ ap (λ (b : Bool). fits kinds p.kind t && b) (one-less (depth t) most some))
  where
    and-true : (b : Bool) → (b && true) ≡ b
    and-true true = refl
    and-true false = refl

    deep : depth_of (from_list (t ∷ [])) ≡ depth t
    deep = omega arith
