-- Where a record begins that reads as a message.
use Rattle.std.proofs.Common.{◌≡◌, ◌↔◌, ◌⊎◌, inl, inr, ℕ, ◌+◌, ◌-◌, ◌*◌, ◌/◌, ◌%◌, ◌^◌, ◌<◌, ◌≤◌, Bool, true, false}
use Rattle.std.proofs.Common.{leb, List, length, drop, IsTrue, arith, sym, subst}
use Rattle.std.proofs.lemmas.Bool.{cases_lt, le-leb, leb-true}
use Rattle.capture_records.specs.declared.finding.TheConstants.{MOST_RECORD}
use Rattle.capture_records.specs.Finding.{IsAccepted, IsCall, IsDenied, IsFragmentFront}
use Rattle.capture_records.specs.Finding.{IsMessageFront, IsRecordFront, MayHave, word_at}

-- ---- a fragment

-- the header, from its number
header_parts : (n : ℕ) → n < 2 ^ 32 → (n ≡ n % 2 ^ 31) ⊎ (n ≡ 2 ^ 31 + n % 2 ^ 31)
header_parts n small =
    elim (cases_lt n (2 ^ 31)) [ inl h ↦ inl (omega (arith, h)) | inr h ↦ inr (omega (arith, h, small)) ]

-- a header of such a size, and a message's front behind it
fragment_front : (bytes : List ℕ) → 20 ≤ length bytes → word_at 0 bytes < 2 ^ 32
    → 12 ≤ word_at 0 bytes % 2 ^ 31 → word_at 0 bytes % 2 ^ 31 ≤ MOST_RECORD → IsMessageFront (drop 4 bytes)
    → IsFragmentFront bytes
fragment_front bytes long small least most front =
    elim (header_parts (word_at 0 bytes) small) [
      | inl e ↦ record {
        long = long;
        last = false;
        size = word_at 0 bytes % 2 ^ 31;
        header = e;
        least = least;
        most = most;
        front = front;
      }
      | inr e ↦ record {
        long = long;
        last = true;
        size = word_at 0 bytes % 2 ^ 31;
        header = e;
        least = least;
        most = most;
        front = front;
      }
    ]

-- a test of what stands behind the header tells whether that is a fragment's front
pub fragment_is : (bytes message : List ℕ) (number : ℕ) (b : Bool) → 20 ≤ length bytes → number ≡ word_at 0 bytes
    → number < 2 ^ 32 → 12 ≤ number % 2 ^ 31 → number % 2 ^ 31 ≤ MOST_RECORD → message ≡ drop 4 bytes
    → IsTrue b ↔ IsMessageFront message → IsTrue b ↔ IsFragmentFront bytes
fragment_is bytes message number b long is small least most e iff = (
  λ t. fragment_front bytes long (omega (arith, is, small)) (subst (λ (k : ℕ). 12 ≤ k % 2 ^ 31) is least)
      (subst (λ (k : ℕ). k % 2 ^ 31 ≤ MOST_RECORD) is most)
      (subst (λ (k : List ℕ). IsMessageFront k) e (iff.0 t)),
  λ f. iff.1 (subst (λ (k : List ℕ). IsMessageFront k) (sym e) f.front),
)

-- ---- a record

-- a message that begins so has at least this size
least_is : (bytes : List ℕ) (least : ℕ) → IsMessageFront bytes → (IsCall bytes → least ≡ 40)
    → (IsAccepted bytes → least ≡ 24) → (IsDenied bytes → least ≡ 20) → (size : ℕ) → MayHave size bytes
    → least ≤ size
least_is bytes least front call accepted denied size may =
    elim front.kind [
      | inl a ↦ omega (arith, call a, may.call a)
      | inr other ↦ elim other [
        | inl a ↦ omega (arith, accepted a, may.accepted a)
        | inr a ↦ omega (arith, denied a, may.denied a)
      ]
    ]

module _ (bytes message : List ℕ) (number least : ℕ) (e : message ≡ drop 4 bytes) where
  -- a test of the size tells whether that is a record's front
  pub record_front : 20 ≤ length bytes → number ≡ word_at 0 bytes → 2 ^ 31 ≤ number → (number - 2 ^ 31) % 4 ≡ 0
      → number - 2 ^ 31 ≤ MOST_RECORD → IsMessageFront message → (IsCall message → least ≡ 40)
      → (IsAccepted message → least ≡ 24) → (IsDenied message → least ≡ 20)
      → IsTrue (leb least (number - 2 ^ 31)) ↔ IsRecordFront bytes
  record_front long is last whole most front call accepted denied =
      let n = number - 2 ^ 31 in
      let words : n ≡ 4 * (n / 4) = omega (arith, whole) in (
        λ t.
            let fits : least ≤ 4 * (n / 4) = omega (arith, words, leb-true least n t) in
            record {
              long = long;
              words = n / 4;
              header = omega (arith, words, last, is);
              least = subst (λ (k : List ℕ). MayHave (4 * (n / 4)) k) e (record {
                call = λ a. omega (arith, call a, fits);
                accepted = λ a. omega (arith, accepted a, fits);
                denied = λ a. omega (arith, denied a, fits);
              });
              most = omega (arith, words, most);
              front = subst (λ (k : List ℕ). IsMessageFront k) e front;
            },
        λ r.
            let header : word_at 0 bytes ≡ 2 ^ 31 + 4 * r.words = r.header in
            let may : MayHave (4 * r.words) message =
            subst (λ (k : List ℕ). MayHave (4 * r.words) k) (sym e) r.least in
            let fits : least ≤ 4 * r.words = least_is message least front call accepted denied (4 * r.words) may in
            le-leb least n (omega (arith, header, is, fits)),
      )
