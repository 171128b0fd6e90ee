-- The first piece, which is handed on.
use Rattle.std.proofs.Common.{◌≡◌, ℕ, ◌+◌, ◌<◌, Option, Some, None}
use Rattle.std.proofs.Common.{is_some}
use Rattle.std.proofs.Common.{sym, ap, ◌∙◌, inl, inr, arith}
use Rattle.std.proofs.lemmas.Bool.{cases_eq, cases_lt}
use Rattle.std.specs.BTreeMap.{BTreeMap, get}
use Rattle.std.specs.Ordering.{nat_cmp}
use Rattle.capture_streams.specs.declared.piece.Piece.{Piece}
use Rattle.capture_streams.specs.Segments.{byte_from}
use Rattle.capture_streams.specs.Held.{HoldsAt, IsHeld, AreApart, StandFrom}
use Rattle.capture_streams.specs.Private.Pieces.{IsFirst, Drops}
use Rattle.capture_streams.proofs.Bytes.{none_is_not, byte_from-low}
use Rattle.capture_streams.proofs.Holding.{under_last, begins_low, one_byte, some_same}

pub old_piece : (m n : BTreeMap ℕ Piece) (l q : ℕ) (v : Piece) → Drops m n l → get nat_cmp n q ≡ Some v
    → (q ≡ l → ⊥) × (get nat_cmp m q ≡ Some v)
old_piece m n l q v d e =
    let apart : q ≡ l → ⊥ = λ s. none_is_not (sym d.gone ∙ ap (get nat_cmp n) (sym s) ∙ e) in
    (apart, sym (d.others q apart) ∙ e)

-- behind the first piece all others are as they were
pub dropped_holds : (m n : BTreeMap ℕ Piece) (l p : ℕ) (v : Piece) → AreApart m → Drops m n l → l < p
    → (o : Option ℕ) → HoldsAt m p o → HoldsAt n p o
dropped_holds m n l p v a d past (Some b) h =
    let under = under_last h.last p b h.piece (a.whole h.last h.piece h.there) h.gives in
    let apart : h.last ≡ l → ⊥ = λ e. omega arith in
    record { last = h.last; piece = h.piece; there = d.others h.last apart ∙ h.there; gives = h.gives }
dropped_holds m n l p v a d past None h = λ b k.
    h b
    (record { last = k.last; piece = k.piece; there = (old_piece m n l k.last k.piece d k.there).1; gives = k.gives })

-- what stands behind the first piece
pub behind_first : (m n : BTreeMap ℕ Piece) (l : ℕ) (v : Piece) → AreApart m → IsFirst m l v → Drops m n l
    → StandFrom (l + 1) n
behind_first m n l v a f d = λ q w e.
    let old = old_piece m n l q w d e in
    let apart = old.0 in
    let least = f.least q (ap is_some old.1) in
    let k = a.apart l q v w f.there old.1 (omega arith) in
    omega arith

-- no piece begins before the first
pub first_begins : (m : BTreeMap ℕ Piece) (l : ℕ) (v : Piece) → AreApart m → IsFirst m l v → StandFrom v.at m
first_begins m l v a f = λ q w e.
    let least = f.least q (ap is_some e) in
    let low = begins_low l v (a.whole l v f.there) in
    elim (cases_eq l q) [
      | inl s ↦
          let same : v ≡ w = some_same (sym f.there ∙ ap (get nat_cmp m) s ∙ e) in
          let g : v.at ≡ w.at = ap (λ (z : Piece). z.at) same in
          omega arith
      | inr apart ↦ let k = a.apart l q v w f.there e (omega arith) in omega arith
    ]

-- no byte is held before the first piece
pub before_first : (m : BTreeMap ℕ Piece) (l : ℕ) (v : Piece) → AreApart m → IsFirst m l v → (p : ℕ) → p < v.at
    → HoldsAt m p None
before_first m l v a f p less = λ b h.
    let from = first_begins m l v a f h.last h.piece h.there in
    let low = byte_from-low h.piece.at h.piece.bytes.items p b h.gives in
    omega arith

-- where the due place is held and no piece begins before it, the first piece begins there
pub first_due : (m : BTreeMap ℕ Piece) (due l : ℕ) (v : Piece) → AreApart m → StandFrom due m → IsHeld m due
    → IsFirst m l v → v.at ≡ due
first_due m due l v a from h f =
    let low = from l v f.there in
    elim (cases_lt due v.at) [
      | inl less ↦ absurd (before_first m l v a f due less h.0 h.1)
      | inr more ↦ omega arith
    ]

-- the first piece has the bytes that its places have
pub first_gives : (m : BTreeMap ℕ Piece) (l p b : ℕ) (v : Piece) → AreApart m → get nat_cmp m l ≡ Some v
    → byte_from v.at v.bytes.items p ≡ Some b → (o : Option ℕ) → HoldsAt m p o → o ≡ Some b
first_gives m l p b v a e g None h = absurd (h b (record { last = l; piece = v; there = e; gives = g }))
first_gives m l p b v a e g (Some c) h = sym (one_byte m a l p b c v e g h) ∙ g
