-- Bytes that are put one part after another.
use Rattle.std.proofs.Common.{◌≡◌, ℕ, ◌+◌, ◌<◌, ◌≤◌, List, length, take, drop, Option, Some, None}
use Rattle.std.proofs.Common.{refl, sym, ap, subst, ◌∙◌, arith}
use Rattle.std.proofs.lemmas.List.{length-take-le}
use Rattle.std.proofs.Math.Seq.{take-add}
use Rattle.std.specs.BTreeMap.{BTreeMap}
use Rattle.std.specs.Option.{option_or}
use Rattle.capture_streams.specs.declared.piece.Piece.{Piece}
use Rattle.capture_streams.specs.Segments.{byte_from}
use Rattle.capture_streams.specs.Held.{HoldsAt, IsHeld}
use Rattle.capture_streams.specs.Private.Pieces.{EachPlace, Fills, FillsNext}
use Rattle.capture_streams.proofs.Bytes.{byte_from-append, byte_from-low, byte_from-high}
use Rattle.capture_streams.proofs.Bytes.{option_or-assoc}
use Rattle.capture_streams.proofs.Holding.{held_over, same_holds}

-- the bytes so far and the next few
pub next_part : (at d n : ℕ) (bytes : List ℕ) (p : ℕ) → d ≤ length bytes
    → byte_from at (take (d + n) bytes) p
    ≡ option_or (byte_from at (take d bytes) p) (byte_from (at + d) (take n (drop d bytes)) p)
next_part at d n bytes p few =
    let e : length (take d bytes) ≡ d = length-take-le d bytes few in
    ap (λ (xs : List ℕ). byte_from at xs p) (take-add d n bytes)
    ∙ byte_from-append at (take d bytes) (take n (drop d bytes)) p
    ∙ ap (λ (k : ℕ). option_or (byte_from at (take d bytes) p) (byte_from (at + k) (take n (drop d bytes)) p)) e

-- the next few were put
pub filled_more : (m n o : BTreeMap ℕ Piece) (at d k : ℕ) (bytes : List ℕ) → d ≤ length bytes
    → Fills m n at (take d bytes) → Fills n o (at + d) (take k (drop d bytes)) → Fills m o at (take (d + k) bytes)
filled_more m n o at d k bytes few f g = λ p x h.
    let y = byte_from at (take d bytes) p in
    let z = byte_from (at + d) (take k (drop d bytes)) p in
    let r = g p (option_or x y) (f p x h) in
    let e : option_or (option_or x y) z ≡ option_or x (byte_from at (take (d + k) bytes) p) =
    option_or-assoc x y z ∙ ap (option_or x) (sym (next_part at d k bytes p few)) in
    subst (λ (w : Option ℕ). HoldsAt o p w) e r

-- ---- the next few

pub next_held : (m : BTreeMap ℕ Piece) (at n : ℕ) (bytes : List ℕ) → 0 < n → n ≤ length bytes
    → EachPlace at n (λ p. IsHeld m p) → FillsNext m m at n bytes
next_held m at n bytes some few held = record {
  some = some;
  few = few;
  fills = λ p x h.
      let y = byte_from at (take n bytes) p in
      let none : (w : Option ℕ) → y ≡ w → x ≡ None → w ≡ None = λ w. elim w as
      (λ (w : Option ℕ). y ≡ w → x ≡ None → w ≡ None) [
        | None ↦ λ e f. refl
        | Some b ↦ λ e f.
            let low = byte_from-low at (take n bytes) p b e in
            let high = byte_from-high at (take n bytes) p b e in
            let long = length-take-le n bytes few in
            let there = held p low (omega arith) in
            let nothing : HoldsAt m p None = subst (λ (v : Option ℕ). HoldsAt m p v) f h in
            absurd (nothing there.0 there.1)
      ] in
      held_over m p x y h (none y refl);
  from = λ last piece e due low old. old last piece e;
}

-- nothing has changed
pub filled_same : (m n o : BTreeMap ℕ Piece) (at : ℕ) (bytes : List ℕ) → o.entries ≡ n.entries → Fills m n at bytes
    → Fills m o at bytes
filled_same m n o at bytes e f = λ p x h. same_holds n o p e (option_or x (byte_from at bytes p)) (f p x h)
