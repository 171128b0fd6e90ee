-- The bytes of items, joined, are whole units.
use Rattle.std.proofs.Common.{◌≡◌, ℕ, ◌+◌, ◌-◌, ◌%◌, ◌≤◌, List, [], ◌∷◌, ◌++◌, length, refl, ap, sym, ◌∙◌}
use Rattle.std.proofs.Common.{pos, true, false, drop, arith, append-nil, append_assoc, length-append}
use Rattle.std.specs.Prelude.{⊤}
use Rattle.std.proofs.lemmas.List.{length-replicate}
use Rattle.xdr_types.specs.Kinds as xdr
use Rattle.xdr_types.specs.Kinds.{KindView}
use Rattle.xdr_units.specs.Numbers.{pad, padded, num4}
use Rattle.xdr_writer.specs.Items.{ItemView, number, flag, count, content, NodeItem, spelled_as, spelled, all_spelled}
use Rattle.xdr_writer.specs.Items.{items}
use Rattle.xdr_writer.specs.Answers.{most_bytes}

pub padded_length : (bs : List ℕ) → length (padded bs) ≡ length bs + (4 - length bs % 4) % 4
padded_length bs =
    omega (arith, length-append bs (pad (length bs)), length-replicate {A = ℕ} ((4 - length bs % 4) % 4) 0)

pub some_padded : (b : ℕ) (bs : List ℕ) → 4 ≤ length (padded (b ∷ bs))
some_padded b bs =
    let e = padded_length (b ∷ bs) in let n : length (b ∷ bs) ≡ length bs + 1 = omega arith in omega arith

as_units : (k : KindView) (i : ItemView) → length (spelled_as k i) % 4 ≡ 0
as_units k (flag true) = refl
as_units k (flag false) = refl
as_units k (count n) = refl
as_units xdr.hyper (number z) = refl
as_units xdr.unsigned_hyper (number z) = refl
as_units _ (number z) = refl
as_units (xdr.opaque size) (content bs) = omega (arith, padded_length bs)
as_units _ (content bs) = omega (arith, padded_length bs, length-append (num4 (pos (length bs))) (padded bs))

-- the bytes of an item in a node of any kind
pub most_spelled : (k : KindView) (i : ItemView) → length (spelled_as k i) ≤ most_bytes i
most_spelled k (flag true) = omega arith
most_spelled k (flag false) = omega arith
most_spelled k (count n) = omega arith
most_spelled xdr.hyper (number z) = omega arith
most_spelled xdr.unsigned_hyper (number z) = omega arith
most_spelled _ (number z) = omega arith
most_spelled (xdr.opaque size) (content bs) = omega arith
most_spelled _ (content bs) = omega (arith, length-append (num4 (pos (length bs))) (padded bs))

pub spelled_units : (i : NodeItem) → length (spelled i) % 4 ≡ 0
spelled_units i = as_units i.kind i.item

pub all_units : (is : List NodeItem) → length (all_spelled is) % 4 ≡ 0
all_units [] = refl
all_units (i ∷ is) = omega (arith, length-append (spelled i) (all_spelled is), spelled_units i, all_units is)

pub joined : (xs ys : List NodeItem) → all_spelled (xs ++ ys) ≡ all_spelled xs ++ all_spelled ys
joined [] ys = refl
joined (x ∷ xs) ys = ap (λ (z : List ℕ). spelled x ++ z) (joined xs ys)
    ∙ sym (append_assoc (spelled x) (all_spelled xs) (all_spelled ys))

pub spelled_more : (is : List NodeItem) (i : NodeItem) → all_spelled (is ++ i ∷ []) ≡ all_spelled is ++ spelled i
spelled_more is i = joined is (i ∷ []) ∙ ap (λ (z : List ℕ). all_spelled is ++ z) (append-nil (spelled i))

-- each item has bytes
abbrev pub AreSome : List NodeItem → Type 0
AreSome [] = ⊤
AreSome (i ∷ is) = (4 ≤ length (spelled i)) × AreSome is

pub some_joined : (xs ys : List NodeItem) → AreSome xs → AreSome ys → AreSome (xs ++ ys)
some_joined [] ys h k = k
some_joined (x ∷ xs) ys h k = (h.0, some_joined xs ys h.1 k)

pub some_behind : (xs ys : List NodeItem) → AreSome (xs ++ ys) → AreSome ys
some_behind [] ys h = h
some_behind (x ∷ xs) ys h = some_behind xs ys h.1

pub no_more : (is : List NodeItem) → AreSome is → all_spelled is ≡ [] → is ≡ []
no_more [] h e = refl
no_more (i ∷ is) h e =
    let count : length (spelled i ++ all_spelled is) ≡ 0 = ap (λ (z : List ℕ). length z) e in
    absurd (omega (arith, count, length-append (spelled i) (all_spelled is), h.0))

-- what is behind the first items
pub items_behind : (is rest : List NodeItem) (more : List ItemView) → items (is ++ rest) ≡ items is ++ more
    → items rest ≡ more
items_behind [] rest more e = e
items_behind (i ∷ is) rest more e = items_behind is rest more (ap (λ (z : List ItemView). drop 1 z) e)

pub items_joined : (xs ys : List NodeItem) → items (xs ++ ys) ≡ items xs ++ items ys
items_joined [] ys = refl
items_joined (x ∷ xs) ys = ap (λ (z : List ItemView). x.item ∷ z) (items_joined xs ys)
