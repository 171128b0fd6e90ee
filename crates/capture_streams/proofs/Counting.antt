-- How many bytes are held.
use Rattle.std.proofs.Common.{◌≡◌, ℕ, zero, suc, ◌+◌, ◌-◌, ◌*◌, ◌<◌, ◌≤◌, List, [], ◌∷◌, length, Option, Some, None}
use Rattle.std.proofs.Common.{is_some, refl, sym, ap, subst, ◌∙◌, inl, inr, arith, Bool, true, false, cond}
use Rattle.std.proofs.lemmas.Bool.{cases_eq, cases_lt, le-ltb, eq-eqb, ne_eqb}
use Rattle.std.proofs.lemmas.List.Sums.{sum_by-cons}
use Rattle.std.proofs.lemmas.Map.Keys.{sorted_head, sorted_tail}
use Rattle.std.specs.BTreeMap.{is_at}
use Rattle.std.specs.List.{AllByRecursion, sum_by}
use Rattle.std.specs.List.Sorted.{IsStrictlySortedBy}
use Rattle.std.specs.Map.{keys_of, values_of, lookup}
use Rattle.std.specs.Ordering.{nat_cmp}
use Rattle.std.specs.declared.cmp.Ordering.TheVariants.{Less}
use Rattle.capture_streams.specs.declared.direction.Direction.{Direction}
use Rattle.capture_streams.specs.declared.piece.Piece.{Piece}
use Rattle.capture_streams.specs.Segments.{byte_from}
use Rattle.capture_streams.specs.Held.{HoldsAt, IsPiece, cost_of}
use Rattle.capture_streams.specs.Represents.{Represents, given_count, HoldsGiven}
use Rattle.capture_streams.proofs.Bytes.{none_is_not, byte_from-low, byte_from-high}
use Rattle.capture_streams.proofs.Holding.{piece_has, begins_low, some_same}
use Rattle.capture_streams.proofs.Putting.{same_key, other_key}

-- ---- counts

count_none : (g : ℕ → Option ℕ) (from n : ℕ) → ((p : ℕ) → from ≤ p → p < from + n → g p ≡ None)
    → given_count g from n ≡ 0
count_none g from zero none = refl
count_none g from (suc n) none =
    let here : is_some (g from) ≡ false = ap is_some (none from (omega arith) (omega arith)) in
    let rest = count_none g (from + 1) n (λ p low high. none p (omega arith) (omega arith)) in
    rw here (omega (arith, rest))

count_all : (g : ℕ → Option ℕ) (from n : ℕ) → ((p : ℕ) → from ≤ p → p < from + n → (b : ℕ) × (g p ≡ Some b))
    → given_count g from n ≡ n
count_all g from zero all = refl
count_all g from (suc n) all =
    let first = all from (omega arith) (omega arith) in
    let here : is_some (g from) ≡ true = ap is_some first.1 in
    let rest = count_all g (from + 1) n (λ p low high. all p (omega arith) (omega arith)) in
    rw here (omega (arith, rest))

count_split : (g : ℕ → Option ℕ) (from a b : ℕ)
    → given_count g from (a + b) ≡ given_count g from a + given_count g (from + a) b
count_split g from zero b =
    let e : from + 0 ≡ from = omega arith in
    let f : 0 + b ≡ b = omega arith in
    ap (given_count g from) f ∙ sym (ap (λ (k : ℕ). given_count g k b) e) ∙ omega arith
count_split g from (suc a) b =
    let e : suc a + b ≡ suc (a + b) = omega arith in
    let f : (from + 1) + a ≡ from + suc a = omega arith in
    let rest = count_split g (from + 1) a b in
    let here : given_count g (from + 1) (a + b)
    ≡ given_count g (from + 1) a + given_count g (from + suc a) b =
    rest ∙ ap (λ (k : ℕ). given_count g (from + 1) a + given_count g k b) f in
    ap (given_count g from) e ∙ omega (arith, here)

-- ---- pieces in their order

-- each piece begins behind the one before, and the first of them from a place on
abbrev Chained : (from : ℕ) → List (ℕ × Piece) → Type 0
Chained from [] = Unit {0}
Chained from (e ∷ es) = (from ≤ e.1.at) × IsPiece e.0 e.1 × Chained (e.0 + 1) es

-- what is kept under a number
abbrev at_key : List (ℕ × Piece) → ℕ → Option Piece
at_key es q = lookup (is_at (nat_cmp q)) es

-- an entry has the byte b at the place
record Has (es : List (ℕ × Piece)) (p b : ℕ) : Type 0 where
  last : ℕ
  piece : Piece
  there : at_key es last ≡ Some piece
  gives : byte_from piece.at piece.bytes.items p ≡ Some b

-- what the entries have at the place
abbrev HasAt : List (ℕ × Piece) → (p : ℕ) → Option ℕ → Type 0
HasAt es p (Some b) = Has es p b
HasAt es p None = (b : ℕ) → Has es p b → ⊥

key_below : (l q : ℕ) → nat_cmp l q ≡ Less → l < q
key_below l q e =
    elim (cases_lt l q) [
      | inl less ↦ less
      | inr more ↦ elim (cases_eq l q) [
        | inl same ↦ absurd (let k = rw (le-ltb l q more, eq-eqb l q same) at e in cc)
        | inr apart ↦ absurd (let k = rw (le-ltb l q more, ne_eqb l q apart) at e in cc)
      ]
    ]

head_at : (e : ℕ × Piece) (es : List (ℕ × Piece)) → at_key (e ∷ es) e.0 ≡ Some e.1
head_at e es = ap (λ (b : Bool). cond b (Some e.1) (at_key es e.0)) (same_key e.0)

tail_at : (e : ℕ × Piece) (es : List (ℕ × Piece)) (q : ℕ) → (e.0 ≡ q → ⊥) → at_key (e ∷ es) q ≡ at_key es q
tail_at e es q apart = ap (λ (b : Bool). cond b (Some e.1) (at_key es q)) (other_key q e.0 apart)

-- behind a key stand greater ones
later_key : (l q : ℕ) (es : List (ℕ × Piece)) (w : Piece) → AllByRecursion (λ y. nat_cmp l y ≡ Less) (keys_of es)
    → at_key es q ≡ Some w → l < q
later_key l q [] w all e = none_is_not e
later_key l q (x ∷ es) w all e =
    elim (cases_eq x.0 q) [
      | inl same ↦ subst (λ (k : ℕ). l < k) same (key_below l x.0 all.0)
      | inr apart ↦ later_key l q es w all.1 (sym (tail_at x es q apart) ∙ e)
    ]

-- entries in the order of their keys, of which no two share a place
chained : (from : ℕ) (es : List (ℕ × Piece)) → IsStrictlySortedBy nat_cmp (keys_of es)
    → ((l : ℕ) (v : Piece) → at_key es l ≡ Some v → IsPiece l v)
    → ((l r : ℕ) (v w : Piece) → at_key es l ≡ Some v → at_key es r ≡ Some w → l < r → l < w.at)
    → ((l : ℕ) (v : Piece) → at_key es l ≡ Some v → from ≤ v.at) → Chained from es
chained from [] sorted whole apart begins = tt
chained from (e ∷ es) sorted whole apart begins =
    let here = head_at e es in
    let later : (q : ℕ) (w : Piece) → at_key es q ≡ Some w → e.0 < q = λ q w k.
    later_key e.0 q es w (sorted_head nat_cmp e.0 (keys_of es) sorted) k in
    let old : (q : ℕ) (w : Piece) → at_key es q ≡ Some w → at_key (e ∷ es) q ≡ Some w = λ q w k.
    let less = later q w k in tail_at e es q (λ same. omega arith) ∙ k in (
      begins e.0 e.1 here,
      whole e.0 e.1 here,
      chained (e.0 + 1) es (sorted_tail nat_cmp e.0 (keys_of es) sorted) (λ l v k. whole l v (old l v k))
          (λ l r v w k h less. apart l r v w (old l v k) (old r w h) less)
          (λ l v k.
          let less = apart e.0 l e.1 v here (old l v k) (later l v k) in omega arith),
    )

-- what is kept in a chain begins from its place on
chain_begins : (from : ℕ) (es : List (ℕ × Piece)) → Chained from es → (q : ℕ) (w : Piece) → at_key es q ≡ Some w
    → (from ≤ w.at) × IsPiece q w
chain_begins from [] chain q w e = none_is_not e
chain_begins from (x ∷ es) chain q w e =
    elim (cases_eq x.0 q) [
      | inl same ↦
          let k : x.1 ≡ w = some_same (sym (head_at x es) ∙ ap (at_key (x ∷ es)) same ∙ e) in
          subst (λ (y : ℕ). (from ≤ w.at) × IsPiece y w) same
          (subst (λ (y : Piece). (from ≤ y.at) × IsPiece x.0 y) k (chain.0, chain.1))
      | inr apart ↦
          let rest = chain_begins (x.0 + 1) es chain.2 q w (sym (tail_at x es q apart) ∙ e) in
          let ends = chain.1.ends in
          let low = chain.0 in
          let far = rest.0 in
          (omega arith, rest.1)
    ]

-- ---- the count

-- so many of the bytes from a place on are those of the entries
record Counted (g : ℕ → Option ℕ) (from : ℕ) (es : List (ℕ × Piece)) : Type 0 where
  places : ℕ
  last : (p : ℕ) → from + places ≤ p → g p ≡ None
  few : length es ≤ given_count g from places
  cost : sum_by (λ (v : Piece). length v.bytes.items + 128) (values_of es)
      ≡ given_count g from places + 128 * length es

has_none : (p : ℕ) (o : Option ℕ) → HasAt [] p o → o ≡ None
has_none p None h = refl
has_none p (Some b) h = none_is_not h.there

no_byte : (es : List (ℕ × Piece)) (p : ℕ) (o : Option ℕ) → HasAt es p o → ((b : ℕ) → Has es p b → ⊥) → o ≡ None
no_byte es p None h none = refl
no_byte es p (Some b) h none = absurd (none b h)

some_byte : (es : List (ℕ × Piece)) (p b : ℕ) (o : Option ℕ) → HasAt es p o → Has es p b → (c : ℕ) × (o ≡ Some c)
some_byte es p b None h has = absurd (h b has)
some_byte es p b (Some c) h has = (c, refl)

-- behind the first piece the others have what all have
has_behind : (from : ℕ) (x : ℕ × Piece) (es : List (ℕ × Piece)) → Chained from (x ∷ es) → (p : ℕ) → x.0 < p
    → (o : Option ℕ) → HasAt (x ∷ es) p o → HasAt es p o
has_behind from x es chain p past (Some b) h =
    let apart : x.0 ≡ h.last → ⊥ = λ same.
    let k : x.1 ≡ h.piece = some_same (sym (head_at x es) ∙ ap (at_key (x ∷ es)) same ∙ h.there) in
    let gives : byte_from x.1.at x.1.bytes.items p ≡ Some b =
    subst (λ (y : Piece). byte_from y.at y.bytes.items p ≡ Some b) (sym k) h.gives in
    let high = byte_from-high x.1.at x.1.bytes.items p b gives in
    let ends = chain.1.ends in
    omega arith in
    record { last = h.last; piece = h.piece; there = sym (tail_at x es h.last apart) ∙ h.there; gives = h.gives }
has_behind from x es chain p past None h = λ b k.
    let far = chain_begins (x.0 + 1) es chain.2 k.last k.piece k.there in
    let low = far.0 in
    let after = begins_low k.last k.piece far.1 in
    let apart : x.0 ≡ k.last → ⊥ = λ same. omega arith in
    h b
    (record { last = k.last; piece = k.piece; there = tail_at x es k.last apart ∙ k.there; gives = k.gives })

counted : (g : ℕ → Option ℕ) (from : ℕ) (es : List (ℕ × Piece)) → Chained from es
    → ((p : ℕ) → from ≤ p → HasAt es p (g p)) → Counted g from es
counted g from [] chain has = record {
  places = 0;
  last = λ p low. has_none p (g p) (has p (omega arith));
  few = omega arith;
  cost = refl;
}
counted g from (x ∷ es) chain has =
    let v = x.1 in
    let ends = chain.1.ends in
    let some = chain.1.some in
    let begin = chain.0 in
    let gap : ℕ = v.at - from in
    let long : ℕ = length v.bytes.items in
    let rest = counted g (x.0 + 1) es chain.2 (λ p low.
    has_behind from x es chain p (omega arith) (g p) (has p (omega arith))) in
    let none : given_count g from gap ≡ 0 = count_none g from gap (λ p low high.
    no_byte (x ∷ es) p (g p) (has p low) (λ b h.
    let begun = (chain_begins v.at (x ∷ es) (omega arith, chain.1, chain.2) h.last h.piece h.there).0 in
    let first = byte_from-low h.piece.at h.piece.bytes.items p b h.gives in
    omega arith)) in
    let at : from + gap ≡ v.at = omega arith in
    let all : given_count g v.at long ≡ long = count_all g v.at long (λ p low high.
    let own = piece_has x.0 p v chain.1 low (omega arith) in
    some_byte (x ∷ es) p own.0 (g p) (has p (omega arith))
    (record { last = x.0; piece = v; there = head_at x es; gives = own.1 })) in
    let next : v.at + long ≡ x.0 + 1 = ends in
    let one = count_split g from (gap + long) rest.places in
    let two = count_split g from gap long in
    let mid : given_count g (from + gap) long ≡ long = ap (λ (k : ℕ). given_count g k long) at ∙ all in
    let end : from + (gap + long) ≡ x.0 + 1 = omega arith in
    let tail : given_count g (from + (gap + long)) rest.places ≡ given_count g (x.0 + 1) rest.places =
    ap (λ (k : ℕ). given_count g k rest.places) end in
    let few = rest.few in
    let cost = rest.cost in
    let sum = sum_by-cons (λ (w : Piece). length w.bytes.items + 128) v (values_of es) in
    record {
      places = gap + long + rest.places;
      last = λ p low. rest.last p (omega arith);
      few = omega arith;
      cost = sum ∙ omega arith;
    }

-- ---- a direction

given_has : (d : Direction) (g : ℕ → Option ℕ) (p : ℕ) (o : Option ℕ) → HoldsAt d.pieces.by_last p o
    → HasAt d.pieces.by_last.entries p o
given_has d g p (Some b) h = record { last = h.last; piece = h.piece; there = h.there; gives = h.gives }
given_has d g p None h = λ b k.
    h b (record { last = k.last; piece = k.piece; there = k.there; gives = k.gives })

pub holds_given : (d : Direction) (g : ℕ → Option ℕ) (base : ℕ) (handed : List ℕ) (held : ℕ)
    → held ≡ cost_of d.pieces.by_last → Represents d g base handed → HoldsGiven d g held
holds_given d g base handed held e r =
    let m = d.pieces.by_last in
    let a = d.pieces.apart in
    let c = counted g d.due m.entries (chained d.due m.entries d.pieces.ordered a.whole a.apart d.behind)
    (λ p low. given_has d g p (g p) (r.held p low)) in
    record { places = c.places; pieces = length m.entries; none = c.last; few = c.few; count = e ∙ c.cost }
