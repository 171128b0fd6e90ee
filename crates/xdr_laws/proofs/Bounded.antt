-- Nodes at one place and content are no more than the places and the bytes.
use Rattle.std.proofs.Common.{◌≡◌, ℕ, zero, suc, ◌+◌, ◌-◌, ◌*◌, ◌%◌, ◌≤◌, ◌==◌, min, Bool, true, false, cond, nat_le}
use Rattle.std.proofs.Common.{List, [], ◌∷◌, length, mul-one, mul-add, refl, sym, ap, subst, ◌∙◌, arith}
use Rattle.std.specs.List.{AllByRecursion}
use Rattle.xdr_types.specs.Kinds as xdr
use Rattle.xdr_types.specs.Kinds.{KindView, Part, kind_at}
use Rattle.xdr_types.specs.Tree as value
use Rattle.xdr_types.specs.Tree.{Head, Values, Tree, from_list}
use Rattle.xdr_types.specs.Fits.{Fits, parts, item_part}
use Rattle.xdr_types.specs.Spelling.{own, spelling, bytes_of}
use Rattle.xdr_types.specs.Layout.{Entry, layout, entries, shown, shown_bytes, shown_items, Role, of_number, of_flag}
use Rattle.xdr_types.specs.Layout.{of_length, of_content, of_group}
use Rattle.xdr_laws.specs.Parts.{Join, up_to, is_first, one_if, nodes_at, nodes}
use Rattle.xdr_laws.specs.Held.{retained, content_before}
use Rattle.xdr_laws.proofs.Parts.{all_append}
use Rattle.xdr_laws.proofs.WholeUnits.{value_join}
use Rattle.xdr_laws.proofs.SameParts.{InUnits}

more_test : (a n : ℕ) (x : ℕ) → a % 4 ≡ 0 → n % 4 ≡ 0
    → cond (nat_le a (n + 4)) x 0 ≡ cond (nat_le a n) x 0 + cond (a == n + 4) x 0
more_test a n x h k = grind arith

nodes_test : (s : List KindView) (p : ℕ) (e : Entry) (ps : List Entry)
    → nodes s (up_to p (e ∷ ps)) ≡ cond (nat_le e.at p) (one_if (is_first (kind_at s e.kind) e.role)) 0 + nodes s
    (up_to p ps)
nodes_test s p e ps = by_test (nat_le e.at p)
  where
    by_test : (b : Bool) → nodes s (cond b (e ∷ up_to p ps) (up_to p ps))
        ≡ cond b (one_if (is_first (kind_at s e.kind) e.role)) 0 + nodes s (up_to p ps)
    by_test true = refl
    by_test false = omega arith

nodes_more : (s : List KindView) (n : ℕ) (ps : List Entry) → InUnits ps → n % 4 ≡ 0
    → nodes s (up_to (n + 4) ps) ≡ nodes s (up_to n ps) + nodes_at s (n + 4) ps
nodes_more s n [] u m = refl
nodes_more s n (e ∷ ps) u m =
    omega (
      arith,
      nodes_test s (n + 4) e ps,
      nodes_test s n e ps,
      more_test e.at n
          (one_if (is_first (kind_at s e.kind) e.role)) u.0 m,
      nodes_more s n ps u.1 m,
    )

zero_test : (a x : ℕ) → cond (nat_le a 0) x 0 ≡ cond (a == 0) x 0
zero_test a x = grind arith

nodes_zero : (s : List KindView) (ps : List Entry) → nodes s (up_to 0 ps) ≡ nodes_at s 0 ps
nodes_zero s [] = refl
nodes_zero s (e ∷ ps) = omega (
  arith,
  nodes_test s 0 e ps,
  zero_test e.at (one_if (is_first (kind_at s e.kind) e.role)),
  nodes_zero s ps,
)

-- at most so many at each place, and so at most so many times the places
pub nodes_bound : (s : List KindView) (most : ℕ) (ps : List Entry) → InUnits ps → ((p : ℕ) → nodes_at s p ps ≤ most)
    → (u : ℕ) → nodes s (up_to (4 * u) ps) ≤ most * (u + 1)
nodes_bound s most ps units few zero = omega (arith, nodes_zero s ps, few 0)
nodes_bound s most ps units few (suc u) =
    let before = nodes_bound s most ps units few u in
    let step : nodes s (up_to (4 * u + 4) ps) ≤ most * (u + 1) + most = omega
    (arith, nodes_more s (4 * u) ps units (omega arith), few (4 * u + 4)) in
    let place : 4 * u + 4 ≡ 4 * suc u = omega arith in
    let next : u + 1 + 1 ≡ suc u + 1 = omega arith in
    let product : most * (u + 1) + most ≡ most * (suc u + 1) =
    ap (λ (n : ℕ). most * (u + 1) + n) (sym (mul-one most)) ∙ sym (mul-add most (u + 1) 1)
    ∙ ap (λ (n : ℕ). most * n) next in
    subst (λ (n : ℕ). nodes s (up_to n ps) ≤ most * (suc u + 1)) place (omega arith)

abbrev IsRoomy : ℕ → Role → Type 0
IsRoomy size (of_content n) = n ≤ size
IsRoomy size of_number = Unit {0}
IsRoomy size of_flag = Unit {0}
IsRoomy size of_length = Unit {0}
IsRoomy size of_group = Unit {0}

abbrev AreRoomy : List Entry → Type 0
AreRoomy ps = AllByRecursion (λ (e : Entry). IsRoomy e.size e.role) ps

retained_space : (p at size : ℕ) (role : Role) → IsRoomy size role → retained p at role ≤ min size (p - at)
retained_space p at size (of_content n) r = omega arith
retained_space p at size of_number r = omega arith
retained_space p at size of_flag r = omega arith
retained_space p at size of_length r = omega arith
retained_space p at size of_group r = omega arith

-- stretches that join from a place hold no more than the bytes from there
content_space : (p a b : ℕ) (ps : List Entry) → Join a ps b → AreRoomy ps → content_before p ps ≤ p - a
content_space p a b [] j r = omega arith
content_space p a b (e ∷ ps) j r =
    let more = content_space p (a + e.size) b ps j.1 r.1 in
    omega (arith, retained_space p e.at e.size e.role r.0, j.0)

content_roomy : (place d : ℕ) (t : Part) (k : KindView) (n : ℕ) → AreRoomy (shown_bytes place d t k n)
content_roomy place d t (xdr.opaque size) n = (omega arith, tt)
content_roomy place d t _ n = (tt, (omega arith, tt))

items_roomy : (place d : ℕ) (t : Part) (k : KindView) → AreRoomy (shown_items place d t k)
items_roomy place d t (xdr.fixed item size) = (tt, tt)
items_roomy place d t _ = (tt, tt)

shown_roomy : (place d : ℕ) (t : Part) (k : KindView) (h : Head) → AreRoomy (shown place d t k h)
shown_roomy place d t k (value.bytes bs) = content_roomy place d t k (length bs)
shown_roomy place d t k (value.items n) = items_roomy place d t k
shown_roomy place d t k _ = (tt, tt)

parts_roomy : (s : List KindView) (place d : ℕ) (ts : List Part) (v : Values) → AreRoomy (layout s place d ts v)
parts_roomy s place d [] v = tt
parts_roomy s place d (t ∷ ts) value.none = tt
parts_roomy s place d (t ∷ ts) (value.node h ps rest) =
    let k : KindView = kind_at s t.kind in
    all_append (λ (e : Entry). IsRoomy e.size e.role) (shown place d t k h) _ (shown_roomy place d t k h)
    (all_append (λ (e : Entry). IsRoomy e.size e.role) (layout s (place + length (own k h)) (d + 1) (parts k h) ps) _
    (parts_roomy s (place + length (own k h)) (d + 1) (parts k h) ps)
    (parts_roomy s (place + length (own k h) + length (spelling s (parts k h) ps)) d ts rest))

-- content bytes are at most the bytes
pub content_bound : (s : List KindView) (t p : ℕ) (v : Tree) → Fits s t v → content_before p (entries s t v) ≤ p
content_bound s t p v f = let space = content_space p 0 (length (bytes_of s t v)) (entries s t v) (value_join s t v f)
    (parts_roomy s 0 1 (item_part t ∷ []) (from_list (v ∷ []))) in omega arith
