-- Pieces that share no place: what they have at each.
use Rattle.std.proofs.Common.{◌≡◌, ℕ, ◌+◌, ◌-◌, ◌<◌, ◌≤◌, ◌⊎◌, min, List, [], ◌∷◌, Option, Some, None}
use Rattle.std.proofs.Common.{is_some, true, IsSome, IfSome, slice_get}
use Rattle.std.proofs.Common.{refl, sym, ap, subst, ◌∙◌, inl, inr, arith, false, eqb, ltb}
use Rattle.std.proofs.lemmas.Bool.{cases_eq, cases_lt, cases_order, lt-ltb, le-ltb, eq-eqb, ne_eqb}
use Rattle.std.specs.BTreeMap.{BTreeMap, get, is_at}
use Rattle.std.specs.BTreeMap.Range.{IsRangeOf, IsEntryInRange, IsLeBy}
use Rattle.std.specs.declared.ops.Bound.TheVariants.{Included, Unbounded}
use Rattle.std.specs.Map.{lookup}
use Rattle.std.specs.Option.{option_or}
use Rattle.std.specs.Ordering.{nat_cmp, is_gt}
use Rattle.capture_streams.specs.declared.piece.Piece.{Piece}
use Rattle.capture_streams.specs.declared.stretch.Stretch.{Stretch}
use Rattle.capture_streams.specs.declared.stretch.Stretch.TheVariants as stretch
use Rattle.capture_streams.specs.Segments.{byte_from}
use Rattle.capture_streams.specs.Held.{Holds, HoldsAt, IsHeld, IsGap, IsPiece, AreApart, StandFrom}
use Rattle.capture_streams.specs.Private.Pieces.{EachPlace, IsStretch}
use Rattle.capture_streams.proofs.Bytes.{none_is_not, byte_from-some, byte_from-low, byte_from-high}

-- the place under which a piece is kept is the last of its own
pub under_last : (l p b : ℕ) (v : Piece) → IsPiece l v → byte_from v.at v.bytes.items p ≡ Some b → p ≤ l
under_last l p b v w e =
    let high = byte_from-high v.at v.bytes.items p b e in
    let ends = w.ends in
    omega arith

-- each place from its first one up to its last is its own
pub piece_has : (l p : ℕ) (v : Piece) → IsPiece l v → v.at ≤ p → p ≤ l
    → (b : ℕ) × (byte_from v.at v.bytes.items p ≡ Some b)
piece_has l p v w low high =
    let ends = w.ends in
    byte_from-some v.at v.bytes.items p low (omega arith)

-- its first place is not behind its last
pub begins_low : (l : ℕ) (v : Piece) → IsPiece l v → v.at ≤ l
begins_low l v w =
    let ends = w.ends in
    let some = w.some in
    omega arith

-- a place is that of one piece
pub one_piece : (m : BTreeMap ℕ Piece) → AreApart m → (l q p b c : ℕ) (v w : Piece) → get nat_cmp m l ≡ Some v
    → get nat_cmp m q ≡ Some w → byte_from v.at v.bytes.items p ≡ Some b → byte_from w.at w.bytes.items p ≡ Some c
    → l ≡ q
one_piece m a l q p b c v w hv hw ev ew =
    let pl = under_last l p b v (a.whole l v hv) ev in
    let pq = under_last q p c w (a.whole q w hw) ew in
    let lv = byte_from-low v.at v.bytes.items p b ev in
    let lw = byte_from-low w.at w.bytes.items p c ew in
    elim (cases_order l q) [
      | inl e ↦ e
      | inr d ↦ elim d [
        | inl less ↦ let k = a.apart l q v w hv hw less in absurd (omega arith)
        | inr more ↦ let k = a.apart q l w v hw hv more in absurd (omega arith)
      ]
    ]

pub some_same : {A : Type 0} {x y : A} → Some x ≡ Some y → x ≡ y
some_same e = cc

-- a place has one byte
pub one_byte : (m : BTreeMap ℕ Piece) → AreApart m → (l p b c : ℕ) (v : Piece) → get nat_cmp m l ≡ Some v
    → byte_from v.at v.bytes.items p ≡ Some b → Holds m p c → byte_from v.at v.bytes.items p ≡ Some c
one_byte m a l p b c v hv ev h =
    let e = one_piece m a l h.last p b c v h.piece hv h.there ev h.gives in
    let same : v ≡ h.piece = some_same (sym hv ∙ ap (get nat_cmp m) e ∙ h.there) in
    subst (λ (x : Piece). byte_from x.at x.bytes.items p ≡ Some c) (sym same) h.gives

-- ---- what comes at a place

-- the piece with the least last place from a place on
pub record IsNext (m : BTreeMap ℕ Piece) (at l : ℕ) (v : Piece) : Type 0 where
  pub there : get nat_cmp m l ≡ Some v
  pub low : at ≤ l
  pub least : (q : ℕ) → at ≤ q → IsSome (get nat_cmp m q) → l ≤ q

pub held_stretch : (m : BTreeMap ℕ Piece) (at l n : ℕ) (v : Piece) → AreApart m → IsNext m at l v → v.at ≤ at
    → at + n ≤ l + 1 → EachPlace at n (λ p. IsHeld m p)
held_stretch m at l n v a next begun few = λ p low high.
    let r = piece_has l p v (a.whole l v next.there) (omega arith) (omega arith) in
    (r.0, record { last = l; piece = v; there = next.there; gives = r.1 })

pub gap_stretch : (m : BTreeMap ℕ Piece) (at l n : ℕ) (v : Piece) → AreApart m → IsNext m at l v
    → at + n ≤ v.at → EachPlace at n (λ p. HoldsAt m p None)
gap_stretch m at l n v a next few = λ p low high b h.
    let whole = a.whole h.last h.piece h.there in
    let under = under_last h.last p b h.piece whole h.gives in
    let from = byte_from-low h.piece.at h.piece.bytes.items p b h.gives in
    let far : l ≤ h.last = next.least h.last (omega arith) (ap is_some h.there) in
    elim (cases_eq l h.last) [
      | inl e ↦
          let same : v ≡ h.piece = some_same (sym next.there ∙ ap (get nat_cmp m) e ∙ h.there) in
          let begun : v.at ≡ h.piece.at = ap (λ (x : Piece). x.at) same in
          omega arith
      | inr ne ↦
          let k = a.apart l h.last v h.piece next.there h.there (omega arith) in
          let first = begins_low l v (a.whole l v next.there) in
          omega arith
    ]

-- behind a gap a place has a byte, where it is not as long as it may be
pub gap_ends : (m : BTreeMap ℕ Piece) (at l most n : ℕ) (v : Piece) → AreApart m → IsNext m at l v → at < v.at
    → n ≡ min (v.at - at) most → (n ≡ most) ⊎ IsHeld m (at + n)
gap_ends m at l most n v a next ahead least =
    elim (cases_lt (v.at - at) most) [
      | inl less ↦
          let whole = a.whole l v next.there in
          let r = piece_has l v.at v whole (omega arith) (begins_low l v whole) in
          let held : IsHeld m v.at = (r.0, record { last = l; piece = v; there = next.there; gives = r.1 }) in
          let here : v.at ≡ at + n = omega arith in
          inr (subst (λ (p : ℕ). IsHeld m p) here held)
      | inr more ↦ inl (omega arith)
    ]

pub empty_stretch : (m : BTreeMap ℕ Piece) (at n : ℕ) → AreApart m
    → ((q : ℕ) → at ≤ q → get nat_cmp m q ≡ None) → EachPlace at n (λ p. HoldsAt m p None)
empty_stretch m at n a none = λ p low high b h.
    let whole = a.whole h.last h.piece h.there in
    let under = under_last h.last p b h.piece whole h.gives in
    none_is_not (sym (none h.last (omega arith)) ∙ h.there)

-- where what comes at a place is not held, nothing is
pub hole_from : (m : BTreeMap ℕ Piece) (at : ℕ) (s : Stretch) → IsStretch m at 1 s
    → ((n : ℕ) → s ≡ stretch.Held n → ⊥) → HoldsAt m at None
hole_from m at (stretch.Gap n) h never =
    let some = h.0 in
    h.2 at (omega arith) (omega arith)
hole_from m at (stretch.Held n) h never = absurd (never n refl)

-- where no byte is held there is none
pub none_held : (m : BTreeMap ℕ Piece) (p : ℕ) (o : Option ℕ) → HoldsAt m p o → HoldsAt m p None → o ≡ None
none_held m p None h k = refl
none_held m p (Some b) h k = absurd (k b h)

-- ---- where nothing is held

pub behind_gap : (m : BTreeMap ℕ Piece) (due n : ℕ) → AreApart m → StandFrom due m
    → EachPlace due n (λ p. HoldsAt m p None) → StandFrom (due + n) m
behind_gap m due n a from gap = λ l v e.
    let low = from l v e in
    let whole = a.whole l v e in
    elim (cases_lt v.at (due + n)) [
      | inl inside ↦
          let r = piece_has l v.at v whole (omega arith) (begins_low l v whole) in
          absurd (gap v.at low inside r.0 (record { last = l; piece = v; there = e; gives = r.1 }))
      | inr behind ↦ behind
    ]

-- ---- bytes put one part after another

pub held_over : (m : BTreeMap ℕ Piece) (p : ℕ) (z y : Option ℕ) → HoldsAt m p z → (z ≡ None → y ≡ None)
    → HoldsAt m p (option_or z y)
held_over m p None y h k = rw (k refl) h
held_over m p (Some b) y h k = h

-- ---- the same entries

pub same_get : (m n : BTreeMap ℕ Piece) → n.entries ≡ m.entries → (q : ℕ) → get nat_cmp n q ≡ get nat_cmp m q
same_get m n e q = ap (λ (es : List (ℕ × Piece)). lookup (is_at (nat_cmp q)) es) e

pub same_holds : (m n : BTreeMap ℕ Piece) (p : ℕ) → n.entries ≡ m.entries → (o : Option ℕ) → HoldsAt m p o
    → HoldsAt n p o
same_holds m n p e None h = λ b k.
    h b (record { last = k.last; piece = k.piece; there = sym (same_get m n e k.last) ∙ k.there; gives = k.gives })
same_holds m n p e (Some b) h =
    record { last = h.last; piece = h.piece; there = same_get m n e h.last ∙ h.there; gives = h.gives }

pub same_gap : (m n : BTreeMap ℕ Piece) (at most k : ℕ) → n.entries ≡ m.entries → IsGap m at most k → IsGap n at most k
same_gap m n at most k e g = record {
  some = g.some;
  few = g.few;
  none = λ p low high. same_holds m n p e None (g.none p low high);
  ends = elim g.ends [
    | inl all ↦ inl all
    | inr h ↦ inr (h.0, same_holds m n (at + k) e (Some h.0) h.1)
  ];
}

pub same_from : (m n : BTreeMap ℕ Piece) (due : ℕ) → n.entries ≡ m.entries → StandFrom due m → StandFrom due n
same_from m n due e from = λ l v h. from l v (sym (same_get m n e l) ∙ h)

-- ---- what a range has

pub not_greater : (a b : ℕ) → is_gt (nat_cmp a b) ≡ false → a ≤ b
not_greater a b h =
    elim (cases_lt b a) [
      | inl less ↦
          let x : ltb a b ≡ false = le-ltb a b (omega arith) in
          let y : eqb a b ≡ false = ne_eqb a b (λ e. omega arith) in
          let k : true ≡ false = rw (x, y) at h in
          absurd cc
      | inr more ↦ more
    ]

not_above : (a b : ℕ) → a ≤ b → is_gt (nat_cmp a b) ≡ false
not_above a b h =
    elim (cases_lt a b) [
      | inl less ↦ rw (lt-ltb a b less) refl
      | inr more ↦
          let same : a ≡ b = omega arith in
          rw (le-ltb a b more, eq-eqb a b same) refl
    ]

pub next_from : (m : BTreeMap ℕ Piece) (at l : ℕ) (v : Piece) (r t : List (ℕ × Piece))
    → IsRangeOf nat_cmp (Included at) Unbounded m r → r ≡ (l, v) ∷ t → IsNext m at l v
next_from m at l v r t range e =
    let one : IsEntryInRange nat_cmp (Included at) Unbounded m (l, v) =
    subst (λ (x : List (ℕ × Piece)). IfSome (slice_get x 0) (IsEntryInRange nat_cmp (Included at) Unbounded m)) e
    range.1 in
    record {
      there = one.1;
      low = not_greater at l one.0.0;
      least = λ q low some.
          not_greater l q
          (subst (λ (x : List (ℕ × Piece)). IfSome (slice_get x 0) (λ (y : ℕ × Piece). IsLeBy nat_cmp y.0 q)) e
          (range.2 q (not_above at q low, tt) some));
    }

pub none_from : (m : BTreeMap ℕ Piece) (at : ℕ) (r : List (ℕ × Piece))
    → IsRangeOf nat_cmp (Included at) Unbounded m r → r ≡ [] → (q : ℕ) → at ≤ q → get nat_cmp m q ≡ None
none_from m at r range e q low = range.5 e q (not_above at q low, tt)
