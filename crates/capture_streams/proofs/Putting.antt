-- A piece that is put where none was.
use Rattle.std.proofs.Common.{◌≡◌, ℕ, ◌+◌, ◌-◌, ◌^◌, ◌<◌, ◌≤◌, List, length, Option, Some, None}
use Rattle.std.proofs.Common.{true}
use Rattle.std.proofs.Common.{refl, sym, ap, subst, ◌∙◌, inl, inr, arith, ◌⊎◌, Bool, false, cond}
use Rattle.std.proofs.lemmas.Bool.{cases_eq, cases_lt, lt-ltb, le-ltb, eq-eqb, ne_eqb}
use Rattle.std.specs.BTreeMap.{BTreeMap, get, is_at, Updates, IsOrdered, insert_entry}
use Rattle.std.specs.List.{sum_by}
use Rattle.std.specs.Map.{values_of}
use Rattle.std.specs.Option.{option_map, unwrap_or}
use Rattle.std.proofs.lemmas.Cmp.{nat_cmp_total}
use Rattle.std.proofs.lemmas.Map.Entries.{sum_by-insert_entry}
use Rattle.std.specs.Ordering.{nat_cmp}
use Rattle.capture_streams.specs.declared.piece.Piece.{Piece}
use Rattle.capture_streams.specs.Segments.{byte_from}
use Rattle.capture_streams.specs.Held.{Holds, HoldsAt, IsPiece, AreApart, cost_of}
use Rattle.capture_streams.specs.Private.Pieces.{EachPlace, Fills, BeginFrom, Puts}
use Rattle.capture_streams.proofs.Bytes.{none_is_not}
use Rattle.capture_streams.proofs.Holding.{piece_has, begins_low, some_same}

pub absent : (m : BTreeMap ℕ Piece) (at n l : ℕ) → AreApart m → EachPlace at n (λ p. HoldsAt m p None) → at ≤ l
    → l < at + n → get nat_cmp m l ≡ None
absent m at n l a gap low high =
    let cases : (o : Option Piece) → get nat_cmp m l ≡ o → get nat_cmp m l ≡ None = λ o. elim o as
    (λ (o : Option Piece). get nat_cmp m l ≡ o → get nat_cmp m l ≡ None) [
      | None ↦ λ e. e
      | Some v ↦ λ e.
          let whole = a.whole l v e in
          let r = piece_has l l v whole (begins_low l v whole) (omega arith) in
          absurd (gap l low high r.0 (record { last = l; piece = v; there = e; gives = r.1 }))
    ] in
    cases (get nat_cmp m l) refl

-- ---- what a map has after a change at one key

pub same_key : (l : ℕ) → is_at (nat_cmp l) l ≡ true
same_key l =
    let not_below : l ≤ l = omega arith in
    rw (le-ltb l l not_below, eq-eqb l l refl) refl

pub other_key : (l q : ℕ) → (q ≡ l → ⊥) → is_at (nat_cmp l) q ≡ false
other_key l q apart =
    let differ : l ≡ q → ⊥ = λ e. apart (sym e) in
    elim (cases_lt l q) [
      | inl less ↦ rw (lt-ltb l q less) refl
      | inr more ↦ rw (le-ltb l q more, ne_eqb l q differ) refl
    ]

pub at_same : (m n : BTreeMap ℕ Piece) (l : ℕ) (w : Option Piece) → Updates nat_cmp m n l w → get nat_cmp n l ≡ w
at_same m n l w u = u.0 l ∙ ap (λ (b : Bool). cond b w (get nat_cmp m l)) (same_key l)

pub at_other : (m n : BTreeMap ℕ Piece) (l : ℕ) (w : Option Piece) → Updates nat_cmp m n l w → (q : ℕ)
    → (q ≡ l → ⊥) → get nat_cmp n q ≡ get nat_cmp m q
at_other m n l w u q apart = u.0 q ∙ ap (λ (b : Bool). cond b w (get nat_cmp m q)) (other_key l q apart)

-- a piece is the new one or an old one
put_cases : (m n : BTreeMap ℕ Piece) (l : ℕ) (v : Piece) → Updates nat_cmp m n l (Some v) → (q : ℕ) (w : Piece)
    → get nat_cmp n q ≡ Some w → ((q ≡ l) × (w ≡ v)) ⊎ ((q ≡ l → ⊥) × (get nat_cmp m q ≡ Some w))
put_cases m n l v u q w e =
    elim (cases_eq q l) [
      | inl same ↦
          let f : Some w ≡ Some v = sym e ∙ ap (get nat_cmp n) same ∙ at_same m n l (Some v) u in
          inl (same, some_same f)
      | inr apart ↦ inr (apart, sym (at_other m n l (Some v) u q apart) ∙ e)
    ]

module _ (m n : BTreeMap ℕ Piece) (l : ℕ) (v : Piece) (a : AreApart m) (w : IsPiece l v)
    (gap : EachPlace v.at (length v.bytes.items) (λ p. HoldsAt m p None)) (u : Updates nat_cmp m n l (Some v)) where
  none_there : get nat_cmp m l ≡ None
  none_there =
      let ends = w.ends in
      absent m v.at (length v.bytes.items) l a gap (begins_low l v w) (omega arith)

  not_old : (q : ℕ) (x : Piece) → get nat_cmp m q ≡ Some x → q ≡ l → ⊥
  not_old q x e same = none_is_not (sym none_there ∙ ap (get nat_cmp m) (sym same) ∙ e)

  put_holds : (p b : ℕ) → Holds m p b → Holds n p b
  put_holds p b h = record {
    last = h.last;
    piece = h.piece;
    there = at_other m n l (Some v) u h.last (not_old h.last h.piece h.there) ∙ h.there;
    gives = h.gives;
  }

  put_fills_none : (p : ℕ) (x : Option ℕ) → byte_from v.at v.bytes.items p ≡ x → HoldsAt m p None → HoldsAt n p x
  put_fills_none p (Some b) e none = record { last = l; piece = v; there = at_same m n l (Some v) u; gives = e }
  put_fills_none p None e none = λ b h.
      elim (put_cases m n l v u h.last h.piece h.there) [
        | inl s ↦
            let f : byte_from v.at v.bytes.items p ≡ Some b =
            subst (λ (x : Piece). byte_from x.at x.bytes.items p ≡ Some b) s.1 h.gives in
            none_is_not (sym e ∙ f)
        | inr s ↦ none b (record { last = h.last; piece = h.piece; there = s.1; gives = h.gives })
      ]

  put_fills : Fills m n v.at v.bytes.items
  put_fills p None h = put_fills_none p (byte_from v.at v.bytes.items p) refl h
  put_fills p (Some b) h = put_holds p b h

  put_from : BeginFrom m n v.at
  put_from q x e due low old =
      elim (put_cases m n l v u q x e) [
        | inl s ↦ subst (λ (y : Piece). due ≤ y.at) (sym s.1) low
        | inr s ↦ old q x s.1
      ]

  pub put_puts : Puts m n v.at v.bytes.items
  put_puts = record { fills = put_fills; from = put_from }

  -- an old piece lies before the new one or behind it
  old_before : (q : ℕ) (x : Piece) → get nat_cmp m q ≡ Some x → q < l → q < v.at
  old_before q x e less =
      let whole = a.whole q x e in
      let ends = w.ends in
      elim (cases_lt q v.at) [
        | inl before ↦ before
        | inr inside ↦
            let r = piece_has q q x whole (begins_low q x whole) (omega arith) in
            absurd (gap q inside (omega arith) r.0 (record { last = q; piece = x; there = e; gives = r.1 }))
      ]

  old_behind : (q : ℕ) (x : Piece) → get nat_cmp m q ≡ Some x → l < q → l < x.at
  old_behind q x e more =
      let whole = a.whole q x e in
      let ends = w.ends in
      elim (cases_lt l x.at) [
        | inl behind ↦ behind
        | inr inside ↦
            let r = piece_has q l x whole inside (omega arith) in
            absurd (gap l (begins_low l v w) (omega arith) r.0
            (record { last = q; piece = x; there = e; gives = r.1 }))
      ]

  put_whole : (q : ℕ) (x : Piece) → get nat_cmp n q ≡ Some x → IsPiece q x
  put_whole q x e =
      elim (put_cases m n l v u q x e) [
        | inl s ↦ subst (λ (k : ℕ). IsPiece k x) (sym s.0) (subst (λ (y : Piece). IsPiece l y) (sym s.1) w)
        | inr s ↦ a.whole q x s.1
      ]

  put_apart : (q r : ℕ) (x y : Piece) → get nat_cmp n q ≡ Some x → get nat_cmp n r ≡ Some y → q < r → q < y.at
  put_apart q r x y ex ey less =
      elim (put_cases m n l v u q x ex) [
        | inl s ↦ elim (put_cases m n l v u r y ey) [
          | inl t ↦ absurd (omega (arith, s.0, t.0))
          | inr t ↦ let k = old_behind r y t.1 (omega (arith, s.0)) in omega (arith, s.0, k)
        ]
        | inr s ↦ elim (put_cases m n l v u r y ey) [
          | inl t ↦
              let k = old_before q x s.1 (omega (arith, t.0)) in
              let f : y.at ≡ v.at = ap (λ (z : Piece). z.at) t.1 in
              omega (arith, k, f)
          | inr t ↦ a.apart q r x y s.1 t.1 less
        ]
      ]

  pub put_are_apart : AreApart n
  put_are_apart = record { whole = put_whole; apart = put_apart }

-- ---- what pieces count

pub cost_put : (m n : BTreeMap ℕ Piece) (l : ℕ) (v : Piece) → IsOrdered nat_cmp m
    → n.entries ≡ insert_entry nat_cmp m.entries l v → get nat_cmp m l ≡ None
    → cost_of n ≡ cost_of m + (length v.bytes.items + 128)
cost_put m n l v ordered entries none =
    let f : Piece → ℕ = λ (p : Piece). length p.bytes.items + 128 in
    let e = sum_by-insert_entry f nat_cmp_total m.entries l v ordered in
    let z : unwrap_or (option_map f (get nat_cmp m l)) 0 ≡ 0 =
    ap (λ (o : Option Piece). unwrap_or (option_map f o) 0) none in
    let c : cost_of n ≡ sum_by f (values_of (insert_entry nat_cmp m.entries l v)) =
    ap (λ (es : List (ℕ × Piece)). sum_by f (values_of es)) entries in
    omega (arith, e, z, c)

-- ---- all that a new piece brings

pub record IsPut (m n : BTreeMap ℕ Piece) (at : ℕ) (bytes : List ℕ) : Type 0 where
  pub puts : Puts m n at bytes
  pub apart : AreApart n
  pub cost : cost_of n ≡ cost_of m + (length bytes + 128)

put_piece : (m n : BTreeMap ℕ Piece) (l : ℕ) (v : Piece) → AreApart m → IsPiece l v
    → EachPlace v.at (length v.bytes.items) (λ p. HoldsAt m p None) → Updates nat_cmp m n l (Some v)
    → IsOrdered nat_cmp m → n.entries ≡ insert_entry nat_cmp m.entries l v → IsPut m n v.at v.bytes.items
put_piece m n l v a w gap u ordered entries = record {
  puts = put_puts m n l v a w gap u;
  apart = put_are_apart m n l v a w gap u;
  cost = cost_put m n l v ordered entries (none_there m n l v a w gap u);
}

pub is_put : (m n : BTreeMap ℕ Piece) (at l : ℕ) (v : Piece) (bytes : List ℕ) → v.at ≡ at → v.bytes.items ≡ bytes
    → AreApart m → 0 < length bytes → at + length bytes + 1 < 2 ^ 64 → l ≡ at + (length bytes - 1)
    → EachPlace at (length bytes) (λ p. HoldsAt m p None) → Updates nat_cmp m n l (Some v) → IsOrdered nat_cmp m
    → n.entries ≡ insert_entry nat_cmp m.entries l v → IsPut m n at bytes
is_put m n at l v bytes begins items a some low last gap u ordered entries =
    let long : length v.bytes.items ≡ length bytes = ap length items in
    let w : IsPiece l v = record { some = omega arith; ends = omega arith; low = omega arith } in
    let clear : EachPlace v.at (length v.bytes.items) (λ p. HoldsAt m p None) = λ p from less.
    gap p (omega arith) (omega arith) in
    let r = put_piece m n l v a w clear u ordered entries in
    subst (λ (k : ℕ). IsPut m n k bytes) begins (subst (λ (xs : List ℕ). IsPut m n v.at xs) items r)
