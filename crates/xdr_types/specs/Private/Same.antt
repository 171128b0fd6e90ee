-- That the test which `==` makes of two values decides whether they are the same tree.
use Rattle.std.specs.Prelude.{◌≡◌, Bool, true, false, ◌&&◌, refl}
use Rattle.std.specs.Bool.{Decides}
use Rattle.std.specs.Cmp.{IsEquivalence, decided}
use Rattle.std.proofs.Common.{ap, ◌∙◌, subst, eqb-true, eq-eqb}
use Rattle.std.proofs.lemmas.Bool.{false≢true, and_parts as both}
use Rattle.std.proofs.lemmas.Bool.Decides.{Decides-int_eq}
use Rattle.std.proofs.lemmas.Slice.Eq.{bytes_eq-Decides}
use Rattle.xdr_types.specs.Tree.{Head, int, unsigned, hyper, unsigned_hyper, boolean, numbered, bytes, items, fields}
use Rattle.xdr_types.specs.Tree.{tag, present, absent, nothing, Values, none, node, Tree}
use Rattle.xdr_types.specs.Same.{same_flag, same_head, same_values, same}

same_flag-itself : (b : Bool) → same_flag b b ≡ true
same_flag-itself true = refl
same_flag-itself false = refl

same_flag-is : (a b : Bool) → same_flag a b ≡ true → a ≡ b
same_flag-is true true h = refl
same_flag-is true false h = absurd (false≢true h)
same_flag-is false true h = absurd (false≢true h)
same_flag-is false false h = refl

same_head-itself : (h : Head) → same_head h h ≡ true
same_head-itself (int m) = (Decides-int_eq m m).1 refl
same_head-itself (unsigned m) = eq-eqb m m refl
same_head-itself (hyper m) = (Decides-int_eq m m).1 refl
same_head-itself (unsigned_hyper m) = eq-eqb m m refl
same_head-itself (boolean a) = same_flag-itself a
same_head-itself (numbered m) = (Decides-int_eq m m).1 refl
same_head-itself (bytes bs) = (bytes_eq-Decides bs bs).1 refl
same_head-itself (items n) = eq-eqb n n refl
same_head-itself fields = refl
same_head-itself (tag m) = (Decides-int_eq m m).1 refl
same_head-itself present = refl
same_head-itself absent = refl
same_head-itself nothing = refl

same_head-is : (h i : Head) → same_head h i ≡ true → h ≡ i
same_head-is (int m) (int n) e = ap int ((Decides-int_eq m n).0 e)
same_head-is (unsigned m) (unsigned n) e = ap unsigned (eqb-true m n e)
same_head-is (hyper m) (hyper n) e = ap hyper ((Decides-int_eq m n).0 e)
same_head-is (unsigned_hyper m) (unsigned_hyper n) e = ap unsigned_hyper (eqb-true m n e)
same_head-is (boolean a) (boolean b) e = ap boolean (same_flag-is a b e)
same_head-is (numbered m) (numbered n) e = ap numbered ((Decides-int_eq m n).0 e)
same_head-is (bytes bs) (bytes cs) e = ap bytes ((bytes_eq-Decides bs cs).0 e)
same_head-is (items m) (items n) e = ap items (eqb-true m n e)
same_head-is fields fields e = refl
same_head-is (tag m) (tag n) e = ap tag ((Decides-int_eq m n).0 e)
same_head-is present present e = refl
same_head-is absent absent e = refl
same_head-is nothing nothing e = refl
same_head-is _ _ e = absurd (false≢true e)

same_values-itself : (vs : Values) → same_values vs vs ≡ true
same_values-itself none = refl
same_values-itself (node h ps rest) = rw (same_head-itself h, same_values-itself ps) (same_values-itself rest)

same_values-is : (vs ws : Values) → same_values vs ws ≡ true → vs ≡ ws
same_values-is none none e = refl
same_values-is (node h ps rest) (node i qs more) e =
    let outer = both (same_head h i && same_values ps qs) (same_values rest more) e in
    let inner = both (same_head h i) (same_values ps qs) outer.0 in
    cc (same_head-is h i inner.0, same_values-is ps qs inner.1, same_values-is rest more outer.1)
same_values-is _ _ e = absurd (false≢true e)

same-is : (t u : Tree) → same t u ≡ true → t ≡ u
same-is t u e =
    let parts = both (same_head t.0 u.0) (same_values t.1 u.1) e in
    let heads : t.0 ≡ u.0 = same_head-is t.0 u.0 parts.0 in
    let inner : t.1 ≡ u.1 = same_values-is t.1 u.1 parts.1 in
    ap (λ (h : Head). let v : Tree = (h, t.1) in v) heads ∙ ap (λ (vs : Values). let v : Tree = (u.0, vs) in v) inner

same-itself : (t : Tree) → same t t ≡ true
same-itself t = rw (same_head-itself t.0) (same_values-itself t.1)

-- the test answers true exactly at equal trees
pub same-Decides : (t u : Tree) → Decides (same t u) (t ≡ u)
same-Decides t u = (same-is t u, λ e. subst (λ z. same t z ≡ true) e (same-itself t))

pub same_equivalence : IsEquivalence same
same_equivalence = decided same same-Decides
