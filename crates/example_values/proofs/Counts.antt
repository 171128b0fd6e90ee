-- Both counts of a kind, by the nodes that it has and the counts of their parts.
use Rattle.std.proofs.Common.{◌≡◌, ℕ, ◌+◌, ◌≤◌, List, [], ◌∷◌, ◌++◌, length, inl, inr, true, refl, sym, ap, subst}
use Rattle.std.proofs.Common.{arith}
use Rattle.std.proofs.lemmas.Bool.{false≢true, and_parts as both}
use Rattle.std.proofs.lemmas.List.{length-append}
use Rattle.xdr_types.specs.Kinds as xdr
use Rattle.xdr_types.specs.Kinds.{KindView, Part, kind_at}
use Rattle.xdr_types.specs.Tree as value
use Rattle.xdr_types.specs.Tree.{Head, Values, Tree}
use Rattle.xdr_types.specs.Fits.{fits, fit, is_legal, parts}
use Rattle.xdr_types.specs.Spelling.{own, spelling, bytes_of}
use Rattle.xdr_bounds.specs.Bounds.{IsReached, HasAtLeast, HasAtMost, IsLeast, IsGreatest}
use Rattle.xdr_bounds.specs.Private.Amounts.{IsIn, total}
use Rattle.xdr_bounds.specs.Private.Shapes.{kinds_of, IsForm, IsShape}
use Rattle.xdr_bounds.specs.declared.shape.Shape.TheVariants as shape
use Rattle.xdr_bounds.proofs.Forms.{node_reached, node_most}

parts_least : (kinds : List KindView) (f : ℕ → ℕ) (ps : List Part)
    → ((q : ℕ) → IsIn q (kinds_of ps) → HasAtLeast kinds q (f q)) → (vs : Values) → fit kinds ps vs ≡ true
    → total f (kinds_of ps) ≤ length (spelling kinds ps vs)
parts_least kinds f [] each value.none e = omega arith
parts_least kinds f [] each (value.node h inner rest) e = absurd (false≢true e)
parts_least kinds f (p ∷ ps) each value.none e = absurd (false≢true e)
parts_least kinds f (p ∷ ps) each (value.node h inner rest) e =
    let first = both (fits kinds p.kind (h, inner)) (fit kinds ps rest) e in
    let here : f p.kind ≤ length (bytes_of kinds p.kind (h, inner)) = each p.kind (inl refl) (h, inner) first.0 in
    let after : total f (kinds_of ps) ≤ length (spelling kinds ps rest) =
    parts_least kinds f ps (λ q i. each q (inr i)) rest first.1 in
    omega (arith, length-append (bytes_of kinds p.kind (h, inner)) (spelling kinds ps rest))

-- a number that no form undercuts, with the fewest of its parts, is undercut by no value
node_least : (kinds : List KindView) (place least : ℕ) (f : ℕ → ℕ)
    → ((n : ℕ) (qs : List ℕ) → IsForm kinds (kind_at kinds place) n qs
    → ((q : ℕ) → IsIn q qs → HasAtLeast kinds q (f q)) × (least ≤ n + total f qs))
    → HasAtLeast kinds place least
node_least kinds place least f each t e =
    let k = kind_at kinds place in
    let node = both (is_legal kinds k t.0) (fit kinds (parts k t.0) t.1) e in
    let form = each (length (own k t.0)) (kinds_of (parts k t.0)) (t.0, node.0, refl, refl) in
    let inside : total f (kinds_of (parts k t.0)) ≤ length (spelling kinds (parts k t.0) t.1) =
    parts_least kinds f (parts k t.0) form.0 t.1 node.1 in
    let here : least ≤ length (own k t.0) + total f (kinds_of (parts k t.0)) = form.1 in
    omega (arith, length-append (own k t.0) (spelling kinds (parts k t.0) t.1))

-- a form whose parts have these least counts, and that no other undercuts
pub least_by : (kinds : List KindView) (place n : ℕ) (qs : List ℕ) (f : ℕ → ℕ)
    → IsForm kinds (kind_at kinds place) n qs → ((q : ℕ) → IsIn q qs → IsReached kinds q (f q))
    → ((m : ℕ) (rs : List ℕ) → IsForm kinds (kind_at kinds place) m rs
    → ((q : ℕ) → IsIn q rs → HasAtLeast kinds q (f q)) × (n + total f qs ≤ m + total f rs))
    → IsLeast kinds place (n + total f qs)
least_by kinds place n qs f form parts below = record {
  every = node_least kinds place (n + total f qs) f below;
  one = node_reached kinds place n qs f form parts;
}

-- a form whose parts have these greatest counts, and that no other passes
pub greatest_by : (kinds : List KindView) (place n : ℕ) (qs : List ℕ) (f : ℕ → ℕ)
    → IsForm kinds (kind_at kinds place) n qs → ((q : ℕ) → IsIn q qs → IsReached kinds q (f q))
    → ((m : ℕ) (rs : List ℕ) → IsForm kinds (kind_at kinds place) m rs
    → ((q : ℕ) → IsIn q rs → HasAtMost kinds q (f q)) × (m + total f rs ≤ n + total f qs))
    → IsGreatest kinds place (n + total f qs)
greatest_by kinds place n qs f form parts above = record {
  every = node_most kinds place (n + total f qs) f above;
  one = node_reached kinds place n qs f form parts;
}

-- ---- kinds without parts

nil : ℕ → ℕ
nil q = 0

pub least_alone : (kinds : List KindView) (place least greatest : ℕ)
    → IsShape kinds (kind_at kinds place) (shape.Alone least greatest) → IsLeast kinds place least
least_alone kinds place least greatest is =
    let all : least + total nil [] ≡ least = omega arith in
    subst (λ (n : ℕ). IsLeast kinds place n) all
    (least_by kinds place least [] nil (is.offers least [] (refl, inl refl)) (λ q i. absurd i)
    (λ m rs form. let c = is.covers m rs form in
    let low : least ≤ m = c.1 in
    (λ q i. absurd (subst (λ (xs : List ℕ). IsIn q xs) c.0 i), omega arith)))

pub greatest_alone : (kinds : List KindView) (place least greatest : ℕ)
    → IsShape kinds (kind_at kinds place) (shape.Alone least greatest) → IsGreatest kinds place greatest
greatest_alone kinds place least greatest is =
    let all : greatest + total nil [] ≡ greatest = omega arith in
    subst (λ (n : ℕ). IsGreatest kinds place n) all
    (greatest_by kinds place greatest [] nil (is.offers greatest [] (refl, inr refl)) (λ q i. absurd i)
    (λ m rs form. let c = is.covers m rs form in
    let high : m ≤ greatest = c.2 in
    let none : total nil rs ≡ 0 = ap (total nil) c.0 in
    (λ q i. absurd (subst (λ (xs : List ℕ). IsIn q xs) c.0 i), omega arith)))

-- ---- structures

fields_only : (kinds : List KindView) (ps : List Part) (n : ℕ) (qs : List ℕ) (h : Head)
    → is_legal kinds (xdr.structure ps) h ≡ true → length (own (xdr.structure ps) h) ≡ n
    → kinds_of (parts (xdr.structure ps) h) ≡ qs → (n ≡ 0) × (qs ≡ kinds_of ps)
fields_only kinds ps n qs value.fields l is of = (sym is, sym of)
fields_only kinds ps n qs _ l is of = absurd (false≢true l)

-- the one form of a structure
pub structure_form : (kinds : List KindView) (ps : List Part) (n : ℕ) (qs : List ℕ)
    → IsForm kinds (xdr.structure ps) n qs → (n ≡ 0) × (qs ≡ kinds_of ps)
structure_form kinds ps n qs form = fields_only kinds ps n qs form.0 form.1 form.2 form.3

pub least_structure : (kinds : List KindView) (place : ℕ) (ps : List Part) (f : ℕ → ℕ)
    → kind_at kinds place ≡ xdr.structure ps → ((q : ℕ) → IsIn q (kinds_of ps) → IsLeast kinds q (f q))
    → IsLeast kinds place (0 + total f (kinds_of ps))
least_structure kinds place ps f at each =
    least_by kinds place 0 (kinds_of ps) f
    (subst (λ (k : KindView). IsForm kinds k 0 (kinds_of ps)) (sym at) (value.fields, refl, refl, refl))
    (λ q i. (each q i).one)
    (λ m rs form. let only = structure_form kinds ps m rs
    (subst (λ (k : KindView). IsForm kinds k m rs) at form) in
    let all : total f rs ≡ total f (kinds_of ps) = ap (total f) only.1 in
    (λ q i. (each q (subst (λ (xs : List ℕ). IsIn q xs) only.1 i)).every, omega arith))

pub greatest_structure : (kinds : List KindView) (place : ℕ) (ps : List Part) (f : ℕ → ℕ)
    → kind_at kinds place ≡ xdr.structure ps → ((q : ℕ) → IsIn q (kinds_of ps) → IsGreatest kinds q (f q))
    → IsGreatest kinds place (0 + total f (kinds_of ps))
greatest_structure kinds place ps f at each =
    greatest_by kinds place 0 (kinds_of ps) f
    (subst (λ (k : KindView). IsForm kinds k 0 (kinds_of ps)) (sym at) (value.fields, refl, refl, refl))
    (λ q i. (each q i).one)
    (λ m rs form. let only = structure_form kinds ps m rs
    (subst (λ (k : KindView). IsForm kinds k m rs) at form) in
    let all : total f rs ≡ total f (kinds_of ps) = ap (total f) only.1 in
    let none : m ≡ 0 = only.0 in
    (λ q i. (each q (subst (λ (xs : List ℕ). IsIn q xs) only.1 i)).every, omega arith))
