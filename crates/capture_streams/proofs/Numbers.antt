-- Places and sequence numbers.
use Rattle.std.proofs.Common.{◌≡◌, ℕ, ◌+◌, ◌-◌, ◌%◌, ◌^◌, ◌<◌, ◌≤◌, zero, suc, List, [], ◌∷◌}
use Rattle.std.proofs.Common.{Some}
use Rattle.std.proofs.Common.{refl, sym, ap, ◌∙◌, inl, inr, arith, slice_get}
use Rattle.std.proofs.lemmas.Bool.{cases_eq, eq-eqb, ne_eqb}
use Rattle.capture_streams.specs.Segments.{Arrival, number_of, lead_of, byte_from, byte_of}
use Rattle.capture_streams.specs.Laws.{IsNear, BytesStandNear, BeginsOnce}
use Rattle.capture_streams.proofs.Bytes.{none_is_not}

-- ---- a byte by its index

pub index_from : (at : ℕ) (bs : List ℕ) (p b : ℕ) → byte_from at bs p ≡ Some b
    → (k : ℕ) × ((slice_get bs k ≡ Some b) × (at + k ≡ p))
index_from at [] p b e = none_is_not e
index_from at (x ∷ bs) p b e =
    elim (cases_eq p at) [
      | inl same ↦ (0, (rw (eq-eqb p at same) at e, omega arith))
      | inr apart ↦
          let r = index_from (at + 1) bs p b (rw (ne_eqb p at apart) at e) in
          (suc r.0, (r.1.0, omega (arith, r.1.1)))
    ]

pub byte_at_index : (at : ℕ) (bs : List ℕ) (k b : ℕ) → slice_get bs k ≡ Some b → byte_from at bs (at + k) ≡ Some b
byte_at_index at [] k b e = none_is_not e
byte_at_index at (x ∷ bs) zero b e =
    let same : at + 0 ≡ at = omega arith in
    rw (eq-eqb (at + 0) at same) e
byte_at_index at (x ∷ bs) (suc k) b e =
    let apart : at + suc k ≡ at → ⊥ = λ f. omega arith in
    let same : (at + 1) + k ≡ at + suc k = omega arith in
    rw (ne_eqb (at + suc k) at apart)
    (ap (byte_from (at + 1) bs) (sym same) ∙ byte_at_index (at + 1) bs k b e)

-- ---- numbers

-- the lead is below 2^32, and with the due place it has the number of the segment
pub lead_below : (first due sequence : ℕ) → lead_of first due sequence < 2 ^ 32
lead_below first due sequence = omega arith

near_from : (first due sequence k p lead x : ℕ) → x ≡ (first + due) % 2 ^ 32
    → lead ≡ (sequence + (2 ^ 32 - x) + 2 ^ 31) % 2 ^ 32 → p + 2 ^ 31 ≡ due + lead + k
    → (first + p) % 2 ^ 32 ≡ (sequence + k) % 2 ^ 32
near_from first due sequence k p lead x ex el e = omega arith

near_to : (first due sequence k p lead x : ℕ) → x ≡ (first + due) % 2 ^ 32
    → lead ≡ (sequence + (2 ^ 32 - x) + 2 ^ 31) % 2 ^ 32 → (first + p) % 2 ^ 32 ≡ (sequence + k) % 2 ^ 32
    → p < due + k + 2 ^ 31 → due + k ≤ p + 2 ^ 31 → p + 2 ^ 31 ≡ due + lead + k
near_to first due sequence k p lead x ex el e low high = omega arith

stands_near : (first : ℕ) (a : Arrival) (place b : ℕ) → byte_of first a place ≡ Some b
    → (k : ℕ) × (slice_get a.segment.bytes k ≡ Some b) × IsNear first a.due a.segment k place
stands_near first a place b e =
    let due = a.due in
    let sequence = a.segment.sequence in
    let lead = lead_of first due sequence in
    let r = index_from (due + lead) a.segment.bytes (place + 2 ^ 31) b e in
    let stands : place + 2 ^ 31 ≡ due + lead + r.0 = sym r.1.1 in
    let below = lead_below first due sequence in (
      r.0,
      r.1.0,
      record {
        numbered = near_from first due sequence r.0 place lead (number_of first due) refl refl stands;
        ahead = omega (arith, stands, below);
        behind = omega (arith, stands);
      },
    )

near_stands : (first : ℕ) (a : Arrival) (place b k : ℕ) → slice_get a.segment.bytes k ≡ Some b
    → IsNear first a.due a.segment k place → byte_of first a place ≡ Some b
near_stands first a place b k e near =
    let due = a.due in
    let sequence = a.segment.sequence in
    let lead = lead_of first due sequence in
    let stands : place + 2 ^ 31 ≡ (due + lead) + k =
    near_to first due sequence k place lead (number_of first due) refl refl near.numbered near.ahead near.behind in
    ap (byte_from (due + lead) a.segment.bytes) stands ∙ byte_at_index (due + lead) a.segment.bytes k b e

pub bytes_stand_near : BytesStandNear
bytes_stand_near first a place b hf hs =
    (stands_near first a place b, λ h. near_stands first a place b h.0 h.1 h.2)

begins_alike : (first due other sequence lead much x y : ℕ) → x ≡ (first + due) % 2 ^ 32 → y ≡ (first + other) % 2 ^ 32
    → lead ≡ (sequence + (2 ^ 32 - x) + 2 ^ 31) % 2 ^ 32 → much ≡ (sequence + (2 ^ 32 - y) + 2 ^ 31) % 2 ^ 32
    → other ≤ due + lead → due + lead < other + 2 ^ 32 → other + much ≡ due + lead
begins_alike first due other sequence lead much x y ex ey el em low high = omega arith

pub begins_once : BeginsOnce
begins_once first due other sequence hf hs low high =
    begins_alike first due other sequence (lead_of first due sequence) (lead_of first other sequence)
    (number_of first due) (number_of first other) refl refl refl refl low high
