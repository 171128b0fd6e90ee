-- Content of a fixed size, unit after unit.
use Rattle.std.proofs.Common.{◌≡◌, ℕ, zero, suc, ◌+◌, ◌-◌, ◌%◌, ◌^◌, ◌<◌, ◌≤◌, ℤ, pos, negsuc, Bool, true, false}
use Rattle.std.proofs.Common.{nat_lt, ltb-true, List, [], ◌∷◌, ◌++◌, length, take, drop, refl, sym, ap, subst, ◌∙◌}
use Rattle.std.proofs.Common.{append_assoc, append-nil, arith, replicate}
use Rattle.std.specs.Int.{w32, w64, from_be_bytes}
use Rattle.std.proofs.lemmas.Nat.{be_bytes_4, be_bytes_8}
use Rattle.std.proofs.lemmas.List.{take_at, drop_at, length-append, length-drop, take-append-le, drop-append-le}
use Rattle.std.proofs.lemmas.List.{append_cancel_left}
use Rattle.xdr_types.specs.Kinds as xdr
use Rattle.xdr_types.specs.Kinds.{KindView, Part, kind_at}
use Rattle.xdr_types.specs.Tree as value
use Rattle.xdr_types.specs.Tree.{Head}
use Rattle.xdr_units.specs.Numbers.{pad, AreBytes, word, long_word}
use Rattle.xdr_types.specs.Fits.{parts}
use Rattle.xdr_types.specs.Spelling.{own}
use Rattle.xdr_types.specs.Layout.{Entry, entry, content, of_number}
use Rattle.xdr_laws.specs.Owed.{Due, Frame, Rest, Completes, Reads, lead_of, IsFreeBytes, free_size}
use Rattle.xdr_units.proofs.Bytes.{byte_at, AreBytes-append, AreBytes-drop}
use Rattle.xdr_laws.proofs.Legal.{IsSigned, IsLegal}
use Rattle.xdr_laws.proofs.Numbers.{units_of, unit8-length, signed8, signed8_low, signed8_high}
use Rattle.xdr_laws.proofs.Owed.{begin_into}
use Rattle.xdr_laws.proofs.Counted.{IsLeaf, leaf_back, leaf_into}

abbrev pub free_parts : (place d : ℕ) (t : Part) → KindView → List Entry
free_parts place d t (xdr.opaque size) = content place d t size
free_parts place d t _ = entry place 8 d t of_number ∷ []

pub bytes8 : (n : ℕ) → AreBytes (long_word n)
bytes8 n = (
  omega arith,
  (
    omega arith,
    (
      omega arith,
      (omega arith, (omega arith, (omega arith, (omega arith, (omega arith, tt))))),
    ),
  ),
)

pub unit4_back : (u : List ℕ) → length u ≡ 4 → AreBytes u → word (from_be_bytes w32 u) ≡ u
unit4_back u len are = be_bytes_4 u (from_be_bytes w32 u) len (byte_at u are) refl

pub unit4_less : (u : List ℕ) → length u ≡ 4 → AreBytes u → from_be_bytes w32 u < 2 ^ 32
unit4_less (a ∷ b ∷ c ∷ d ∷ []) len are = omega arith
unit4_less [] len are = absurd (omega arith)
unit4_less (a ∷ []) len are = absurd (omega arith)
unit4_less (a ∷ b ∷ []) len are = absurd (omega arith)
unit4_less (a ∷ b ∷ c ∷ []) len are = absurd (omega arith)
unit4_less (a ∷ b ∷ c ∷ d ∷ e ∷ u) len are = absurd (omega arith)

pub unit8_back : (u : List ℕ) → length u ≡ 8 → AreBytes u → long_word (from_be_bytes w64 u) ≡ u
unit8_back u len are = be_bytes_8 u (from_be_bytes w64 u) len (byte_at u are) refl

pub unit8_less : (u : List ℕ) → length u ≡ 8 → AreBytes u → from_be_bytes w64 u < 2 ^ 64
unit8_less (a ∷ b ∷ c ∷ d ∷ e ∷ f ∷ g ∷ h ∷ []) len are = omega arith
unit8_less (a ∷ b ∷ c ∷ d ∷ e ∷ f ∷ g ∷ h ∷ i ∷ u) len are = absurd (omega arith)
unit8_less _ len are = absurd (omega arith)

pub signed8_unit : (x : ℕ) → x < 2 ^ 64 → IsSigned (2 ^ 63) (signed8 x) × (units_of (signed8 x) ≡ x)
signed8_unit x h = by_half x h (nat_lt x (2 ^ 63)) refl
  where
    low : (x : ℕ) → x < 2 ^ 63 → IsSigned (2 ^ 63) (pos x) × (units_of (pos x) ≡ x)
    low x h = (h, refl)

    high : (x : ℕ) → 2 ^ 63 ≤ x → x < 2 ^ 64
        → IsSigned (2 ^ 63) (negsuc (2 ^ 64 - 1 - x))
        × (units_of (negsuc (2 ^ 64 - 1 - x)) ≡ x)
    high x h less = (omega arith, omega arith)

    by_half : (x : ℕ) → x < 2 ^ 64 → (b : Bool) → nat_lt x (2 ^ 63) ≡ b
        → IsSigned (2 ^ 63) (signed8 x) × (units_of (signed8 x) ≡ x)
    by_half x h true e =
        let below = ltb-true x (2 ^ 63) e in
        subst (λ (z : ℤ). IsSigned (2 ^ 63) z × (units_of z ≡ x)) (sym (signed8_low x below)) (low x below)
    by_half x h false e =
        let above : 2 ^ 63 ≤ x = grind arith in
        subst (λ (z : ℤ). IsSigned (2 ^ 63) z × (units_of z ≡ x)) (sym (signed8_high x above))
        (high x above h)

abbrev IsFreeBy : List KindView → KindView → Head → (place d : ℕ) (t : Part) → List ℕ → Type 0
IsFreeBy s k g place d t bs = (length bs ≡ free_size k) × AreBytes bs
    × IsLeaf s k g place d t (bs ++ pad (free_size k)) (free_parts place d t k)

free_is : (s : List KindView) (k : KindView) (g : Head) (place d : ℕ) (t : Part) → IsFreeBytes (lead_of k)
    → IsLegal s k g
    → (bs : List ℕ) × IsFreeBy s k g place d t bs
free_is s xdr.hyper (value.hyper z) place d t u l = (
  long_word (units_of z),
  (
    unit8-length (units_of z),
    bytes8 (units_of z),
    (l, sym (append-nil (long_word (units_of z))), refl, refl),
  ),
)
free_is s xdr.unsigned_hyper (value.unsigned_hyper n) place d t u l =
    (long_word n, (unit8-length n, bytes8 n, (l, sym (append-nil (long_word n)), refl, refl)))
free_is s (xdr.opaque size) (value.bytes bs) place d t u l =
    (bs, (l.0, l.1, (l, ap (λ (n : ℕ). bs ++ pad n) l.0, refl, ap (λ (n : ℕ). content place d t n) l.0)))
free_is s xdr.hyper _ place d t u l = absurd l
free_is s xdr.unsigned_hyper _ place d t u l = absurd l
free_is s (xdr.opaque size) _ place d t u l = absurd l
free_is s _ g place d t u l = absurd u

free_legal : (s : List KindView) (k : KindView) (place d : ℕ) (t : Part) (bs : List ℕ) → IsFreeBytes (lead_of k)
    → length bs ≡ free_size k → AreBytes bs
    → (g : Head) × IsLeaf s k g place d t (bs ++ pad (free_size k)) (free_parts place d t k)
free_legal s xdr.hyper place d t bs u len are =
    let b = signed8_unit (from_be_bytes w64 bs) (unit8_less bs len are) in (
      value.hyper (signed8 (from_be_bytes w64 bs)),
      (b.0, ap long_word b.1 ∙ unit8_back bs len are ∙ sym (append-nil bs), refl, refl),
    )
free_legal s xdr.unsigned_hyper place d t bs u len are = (
  value.unsigned_hyper (from_be_bytes w64 bs),
  (unit8_less bs len are, unit8_back bs len are ∙ sym (append-nil bs), refl, refl),
)
free_legal s (xdr.opaque size) place d t bs u len are =
    (value.bytes bs, ((len, are), ap (λ (n : ℕ). bs ++ pad n) len, refl, ap (λ (n : ℕ). content place d t n) len))
free_legal s _ place d t bs u len are = absurd u

-- a value of free bytes begins
pub reads_free : (s : List KindView) (place d : ℕ) (t : Part) (ts : List Part) (ds : List Due)
    → IsFreeBytes (lead_of (kind_at s t.kind))
    → Reads s place (Frame d (t ∷ ts) ∷ ds) [] (free_parts place d t (kind_at s t.kind))
    (Rest (free_size (kind_at s t.kind)) ∷ Frame d ts ∷ ds)
reads_free s place d t ts ds u = record {
  into = λ c all r.
      let k : KindView = kind_at s t.kind in
      let n : ℕ = free_size k in
      let i = begin_into s place d t ts ds c all r in
      let l = free_is s k i.0 place d t u i.3 in
      let bs : List ℕ = l.0 in
      let leaf = l.1.2 in
      let ended = leaf_into s (place + length (own k i.0)) d ts (parts k i.0) ds i.1 i.2 leaf.2 i.6 in
      let far : place + length (own k i.0)
      ≡ place + 0 + (n + length (pad n)) = omega (arith, ap length leaf.1, length-append bs (pad n), l.1.0) in (
        i.2,
        i.5 ∙ ap (λ (o : List Entry). o ++ i.2) leaf.3,
        (
          bs,
          i.1,
          l.1.0,
          l.1.1,
          i.4 ∙ ap (λ (o : List ℕ). o ++ i.1) leaf.1
              ∙ append_assoc bs (pad n) i.1,
          subst (λ (m : ℕ). Completes s m (Frame d ts ∷ ds) i.1 i.2) far ended,
        ),
      );
  back = λ c ps r.
      let k : KindView = kind_at s t.kind in
      let n : ℕ = free_size k in
      let bs : List ℕ = r.0 in
      let l = free_legal s k place d t bs u r.2 r.3 in
      let far : place + 0 + (n + length (pad n))
      ≡ place + length (bs ++ pad n) = omega (arith, length-append bs (pad n), r.2) in
      subst (λ (b : List ℕ). Completes s place (Frame d (t ∷ ts) ∷ ds) b (free_parts place d t k ++ ps))
      (append_assoc bs (pad n) r.1 ∙ sym r.4)
      (leaf_back s place d t ts ds l.0 (bs ++ pad n) (free_parts place d t k) r.1 ps l.1
      (subst (λ (m : ℕ). Completes s m (Frame d ts ∷ ds) r.1 ps) far r.5));
}

pad_less : (n : ℕ) → 4 ≤ n → pad (n - 4) ≡ pad n
pad_less n h = let same : (n - 4) % 4 ≡ n % 4 = omega arith in ap (λ (m : ℕ). replicate ((4 - m) % 4) 0) same

pub reads_rest : (s : List KindView) (place n : ℕ) (ds : List Due) (u : List ℕ) → 4 ≤ n → length u ≡ 4 → AreBytes u
    → Reads s place (Rest n ∷ ds) u [] (Rest (n - 4) ∷ ds)
reads_rest s place n ds u long len are = record {
  into = λ c all r.
      let bs : List ℕ = r.0 in
      let front : u ≡ take 4 bs = sym (take_at u c 4 len) ∙ ap (λ (b : List ℕ). take 4 b) r.4
      ∙ take-append-le 4 bs (pad n ++ r.1) (omega (arith, r.2)) in
      let after : c ≡ drop 4 bs ++ (pad n ++ r.1) = sym (drop_at u c 4 len) ∙ ap (λ (b : List ℕ). drop 4 b) r.4
      ∙ drop-append-le 4 bs (pad n ++ r.1) (omega (arith, r.2)) in
      let far : place + (n + length (pad n))
      ≡ place + length u + (n - 4 + length (pad (n - 4))) = omega
      (arith, len, ap (λ (p : List ℕ). length p) (pad_less n long)) in (
        all,
        refl,
        (
          drop 4 bs,
          r.1,
          omega (arith, length-drop 4 bs, r.2),
          AreBytes-drop 4 bs r.3,
          after ∙ ap (λ (p : List ℕ). drop 4 bs ++ (p ++ r.1)) (sym (pad_less n long)),
          subst (λ (m : ℕ). Completes s m ds r.1 all) far r.5,
        ),
      );
  back = λ c ps r.
      let bs : List ℕ = r.0 in
      let far : place + length u + (n - 4 + length (pad (n - 4)))
      ≡ place + (n + length (pad n)) = omega (arith, len, ap (λ (p : List ℕ). length p) (pad_less n long)) in (
        u ++ bs,
        r.1,
        omega (arith, length-append u bs, r.2, len),
        AreBytes-append u bs are r.3,
        ap (λ (b : List ℕ). u ++ b) (r.4 ∙ ap (λ (p : List ℕ). bs ++ (p ++ r.1)) (pad_less n long))
            ∙ sym (append_assoc u bs (pad n ++ r.1)),
        subst (λ (m : ℕ). Completes s m ds r.1 ps) far r.5,
      );
}

pub reads_last : (s : List KindView) (place n : ℕ) (ds : List Due) (bs : List ℕ) → length bs ≡ n → AreBytes bs
    → Reads s place (Rest n ∷ ds) (bs ++ pad n) [] ds
reads_last s place n ds bs len are =
    let far : place + (n + length (pad n))
    ≡ place + length (bs ++ pad n) = omega (arith, length-append bs (pad n), len) in
    record {
      into = λ c all r.
          let e : bs ++ (pad n ++ c) ≡ r.0 ++ (pad n ++ r.1) = sym (append_assoc bs (pad n) c) ∙ r.4 in
          let same : bs ≡ r.0 = sym (take_at bs (pad n ++ c) n len) ∙ ap (λ (b : List ℕ). take n b) e
          ∙ take_at r.0 (pad n ++ r.1) n r.2 in
          let after : pad n ++ c ≡ pad n ++ r.1 = append_cancel_left bs (pad n ++ c) (pad n ++ r.1)
          (e ∙ ap (λ (b : List ℕ). b ++ (pad n ++ r.1)) (sym same)) in
          let rest : r.1 ≡ c = sym (append_cancel_left (pad n) c r.1 after) in (
            all,
            refl,
            subst (λ (b : List ℕ). Completes s (place + length (bs ++ pad n)) ds b all) rest
                (subst (λ (m : ℕ). Completes s m ds r.1 all) far r.5),
          );
      back = λ c ps r. (
        bs,
        c,
        len,
        are,
        append_assoc bs (pad n) c,
        subst (λ (m : ℕ). Completes s m ds c ps) (sym far)
            r,
      );
    }

pub pad_few : (n : ℕ) → 0 < n → n < 4 → length (pad n) ≡ 4 - n
pad_few zero a b = absurd (omega arith)
pad_few (suc zero) a b = refl
pad_few (suc (suc zero)) a b = refl
pad_few (suc (suc (suc zero))) a b = refl
pad_few (suc (suc (suc (suc n)))) a b = absurd (omega arith)

-- no other padding begins what is owed
pub refuses_padding : (s : List KindView) (place n : ℕ) (ds : List Due) (u c : List ℕ) (ps : List Entry) → 0 < n → n < 4
    → length u ≡ 4 → Completes s place (Rest n ∷ ds) (u ++ c) ps → drop n u ≡ pad n
refuses_padding s place n ds u c ps some few len r =
    let short : length (pad n) ≡ 4 - n = pad_few n some few in
    let e : drop n u ++ c ≡ pad n ++ r.1 = sym (drop-append-le n u c (omega arith)) ∙ ap (λ (b : List ℕ). drop n b) r.4
    ∙ drop_at r.0 (pad n ++ r.1) n r.2 in
    sym (take_at (drop n u) c (4 - n) (omega (arith, length-drop n u))) ∙ ap (λ (b : List ℕ). take (4 - n) b) e
    ∙ take_at (pad n) r.1 (4 - n) short

-- a content of no bytes is over
pub reads_over : (s : List KindView) (place : ℕ) (ds : List Due) → Reads s place (Rest 0 ∷ ds) [] [] ds
reads_over s place ds = reads_last s place 0 ds [] refl tt
