-- That the tests which `==` makes of two kinds, members or schemas decide whether they are equal.
use Rattle.std.specs.Prelude.{◌≡◌, ℕ, ℤ, List, true, ◌&&◌, ◌==◌, Option, Some, None, refl}
use Rattle.std.specs.Ordering.{int_eq}
use Rattle.std.specs.Str.{bytes_eq}
use Rattle.std.specs.Bool.{Decides}
use Rattle.std.specs.Cmp.{IsEquivalence, decided}
use Rattle.std.specs.Cmp.Lexicographic.{pointwise, pointwise_decides}
use Rattle.std.specs.Cmp.Rules.{signed_items}
use Rattle.std.proofs.Common.{ap, ◌∙◌, subst, eqb-true, eq-eqb}
use Rattle.std.proofs.lemmas.Bool.{false≢true, and_parts as both, and_from as all-true}
use Rattle.std.proofs.lemmas.Bool.Decides.{Decides-int_eq}
use Rattle.std.proofs.lemmas.Slice.Eq.{bytes_eq-Decides}
use Rattle.xdr_types.specs.Kinds as xdr
use Rattle.xdr_types.specs.Kinds.{KindView, Part, Branch, Constant, Lists}
use Rattle.xdr_types.specs.Alike.{same_part, same_constant, same_branch, same_other, same_kind, same_lists}

part-is : (p q : Part) → same_part p q ≡ true → p ≡ q
part-is p q h =
    let hs = both (bytes_eq p.name q.name) (p.kind == q.kind) h in
    ap (λ (n : List ℕ). let r : Part = record { name = n; kind = p.kind } in r)
    ((bytes_eq-Decides p.name q.name).0 hs.0)
    ∙ ap (λ (k : ℕ). let r : Part = record { name = q.name; kind = k } in r) (eqb-true p.kind q.kind hs.1)

part-itself : (p : Part) → same_part p p ≡ true
part-itself p = all-true _ _ ((bytes_eq-Decides p.name p.name).1 refl) (eq-eqb p.kind p.kind refl)

part-Decides : (p q : Part) → Decides (same_part p q) (p ≡ q)
part-Decides p q = (part-is p q, λ e. subst (λ (z : Part). same_part p z ≡ true) e (part-itself p))

constant-is : (c d : Constant) → same_constant c d ≡ true → c ≡ d
constant-is c d h =
    let hs = both (bytes_eq c.name d.name) (int_eq c.number d.number) h in
    ap (λ (n : List ℕ). let r : Constant = record { name = n; number = c.number } in r)
    ((bytes_eq-Decides c.name d.name).0 hs.0)
    ∙ ap (λ (z : ℤ). let r : Constant = record { name = d.name; number = z } in r)
    ((Decides-int_eq c.number d.number).0 hs.1)

constant-itself : (c : Constant) → same_constant c c ≡ true
constant-itself c = all-true _ _ ((bytes_eq-Decides c.name c.name).1 refl) ((Decides-int_eq c.number c.number).1 refl)

constant-Decides : (c d : Constant) → Decides (same_constant c d) (c ≡ d)
constant-Decides c d = (constant-is c d, λ e. subst (λ (z : Constant). same_constant c z ≡ true) e (constant-itself c))

branch-is : (a b : Branch) → same_branch a b ≡ true → a ≡ b
branch-is a b h =
    let hs = both (pointwise int_eq a.cases b.cases) (same_part a.part b.part) h in
    ap (λ (cs : List ℤ). let r : Branch = record { cases = cs; part = a.part } in r)
    ((signed_items a.cases b.cases).0 hs.0)
    ∙ ap (λ (p : Part). let r : Branch = record { cases = b.cases; part = p } in r) (part-is a.part b.part hs.1)

branch-itself : (a : Branch) → same_branch a a ≡ true
branch-itself a = all-true _ _ ((signed_items a.cases a.cases).1 refl) (part-itself a.part)

branch-Decides : (a b : Branch) → Decides (same_branch a b) (a ≡ b)
branch-Decides a b = (branch-is a b, λ e. subst (λ (z : Branch). same_branch a z ≡ true) e (branch-itself a))

other-is : (o p : Option Part) → same_other o p ≡ true → o ≡ p
other-is None None h = refl
other-is (Some p) (Some q) h = ap Some (part-is p q h)
other-is _ _ h = absurd (false≢true h)

other-itself : (o : Option Part) → same_other o o ≡ true
other-itself None = refl
other-itself (Some p) = part-itself p

kind-is : (f g : KindView) → same_kind f g ≡ true → f ≡ g
kind-is xdr.int xdr.int h = refl
kind-is xdr.unsigned xdr.unsigned h = refl
kind-is xdr.hyper xdr.hyper h = refl
kind-is xdr.unsigned_hyper xdr.unsigned_hyper h = refl
kind-is xdr.boolean xdr.boolean h = refl
kind-is (xdr.numbered cs) (xdr.numbered ds) h = ap xdr.numbered ((pointwise_decides constant-Decides cs ds).0 h)
kind-is (xdr.opaque m) (xdr.opaque n) h = ap xdr.opaque (eqb-true m n h)
kind-is (xdr.opaque_up_to m) (xdr.opaque_up_to n) h = ap xdr.opaque_up_to (eqb-true m n h)
kind-is (xdr.text m) (xdr.text n) h = ap xdr.text (eqb-true m n h)
kind-is (xdr.fixed i m) (xdr.fixed j n) h = let hs =
    both (i == j) (m == n) h in cc (eqb-true i j hs.0, eqb-true m n hs.1)
kind-is (xdr.up_to i m) (xdr.up_to j n) h = let hs =
    both (i == j) (m == n) h in cc (eqb-true i j hs.0, eqb-true m n hs.1)
kind-is (xdr.structure ps) (xdr.structure qs) h = ap xdr.structure ((pointwise_decides part-Decides ps qs).0 h)
kind-is (xdr.choice t as' o) (xdr.choice u bs p) h =
    let hs = both (t == u && pointwise same_branch as' bs) (same_other o p) h in
    let gs = both (t == u) (pointwise same_branch as' bs) hs.0 in
    cc (eqb-true t u gs.0, (pointwise_decides branch-Decides as' bs).0 gs.1, other-is o p hs.1)
kind-is (xdr.maybe i) (xdr.maybe j) h = ap xdr.maybe (eqb-true i j h)
kind-is xdr.nothing xdr.nothing h = refl
kind-is xdr.unknown xdr.unknown h = refl
kind-is _ _ h = absurd (false≢true h)

kind-itself : (f : KindView) → same_kind f f ≡ true
kind-itself (xdr.numbered cs) = (pointwise_decides constant-Decides cs cs).1 refl
kind-itself (xdr.opaque m) = eq-eqb m m refl
kind-itself (xdr.opaque_up_to m) = eq-eqb m m refl
kind-itself (xdr.text m) = eq-eqb m m refl
kind-itself (xdr.fixed i m) = all-true _ _ (eq-eqb i i refl) (eq-eqb m m refl)
kind-itself (xdr.up_to i m) = all-true _ _ (eq-eqb i i refl) (eq-eqb m m refl)
kind-itself (xdr.structure ps) = (pointwise_decides part-Decides ps ps).1 refl
kind-itself (xdr.choice t as' o) = all-true _ _
    (all-true _ _ (eq-eqb t t refl) ((pointwise_decides branch-Decides as' as').1 refl)) (other-itself o)
kind-itself (xdr.maybe i) = eq-eqb i i refl
kind-itself xdr.int = refl
kind-itself xdr.unsigned = refl
kind-itself xdr.hyper = refl
kind-itself xdr.unsigned_hyper = refl
kind-itself xdr.boolean = refl
kind-itself xdr.nothing = refl
kind-itself xdr.unknown = refl

kind-Decides : (f g : KindView) → Decides (same_kind f g) (f ≡ g)
kind-Decides f g = (kind-is f g, λ e. subst (λ (z : KindView). same_kind f z ≡ true) e (kind-itself f))

lists-is : (s t : Lists) → same_lists s t ≡ true → s ≡ t
lists-is s t h =
    let hs = both (pointwise same_kind s.kinds t.kinds) (pointwise same_part s.names t.names) h in
    ap (λ (ks : List KindView). let r : Lists = record { kinds = ks; names = s.names } in r)
    ((pointwise_decides kind-Decides s.kinds t.kinds).0 hs.0)
    ∙ ap (λ (ns : List Part). let r : Lists = record { kinds = t.kinds; names = ns } in r)
    ((pointwise_decides part-Decides s.names t.names).0 hs.1)

lists-itself : (s : Lists) → same_lists s s ≡ true
lists-itself s = all-true _ _ ((pointwise_decides kind-Decides s.kinds s.kinds).1 refl)
    ((pointwise_decides part-Decides s.names s.names).1 refl)

pub lists-Decides : (s t : Lists) → Decides (same_lists s t) (s ≡ t)
lists-Decides s t = (lists-is s t, λ e. subst (λ (z : Lists). same_lists s z ≡ true) e (lists-itself s))

pub part_equivalence : IsEquivalence same_part
part_equivalence = decided same_part part-Decides

pub branch_equivalence : IsEquivalence same_branch
branch_equivalence = decided same_branch branch-Decides

pub kind_equivalence : IsEquivalence same_kind
kind_equivalence = decided same_kind kind-Decides

pub lists_equivalence : IsEquivalence same_lists
lists_equivalence = decided same_lists lists-Decides
