-- The records that a reader has met are those of the longest front that is a stream of records within the limit.
use Rattle.std.proofs.Common.{◌≡◌, ℕ, suc, ◌+◌, ◌^◌, ◌<◌, Bool, true, false, List, [], ◌∷◌, ◌++◌, length, All}
use Rattle.std.proofs.Common.{refl, sym, ap, ◌∙◌, append_assoc, arith}
use Rattle.xdr_units.proofs.Bytes.{same_front}
use Rattle.rpc_record.proofs.Headers.{length-header}
use Rattle.std.specs.List.{flat_map, concat}
use Rattle.std.specs.Int.{w32, from_be_bytes}
use Rattle.std.proofs.lemmas.Nat.{from_be_bytes-to_be_bytes_4}
use Rattle.rpc_record.specs.Marked.{header, fragment, IsContent, Marked, OneReading}

-- a header's number
number : Bool → ℕ → ℕ
number true n = 2 ^ 31 + n
number false n = n

header-number : (l : Bool) (n : ℕ) → n < 2 ^ 31 → from_be_bytes w32 (header l n) ≡ number l n
unfolding header number
header-number true n h = from_be_bytes-to_be_bytes_4 (2 ^ 31 + n) (omega arith)
header-number false n h = from_be_bytes-to_be_bytes_4 n (omega arith)

same_number : (l k : Bool) (n m : ℕ) → n < 2 ^ 31 → m < 2 ^ 31 → number l n ≡ number k m → (l ≡ k) × (n ≡ m)
unfolding number
same_number true true n m h i e = (refl, omega arith)
same_number true false n m h i e = absurd (omega arith)
same_number false true n m h i e = absurd (omega arith)
same_number false false n m h i e = (refl, e)

-- two lists of one length, each with another behind it
pub true_false : true ≡ false → ⊥
true_false e = cc

pub header-same : (l k : Bool) (n m : ℕ) (x y : List ℕ) → n < 2 ^ 31 → m < 2 ^ 31 → header l n ++ x ≡ header k m ++ y
    → (l ≡ k) × (n ≡ m) × (x ≡ y)
header-same l k n m x y h i e =
    let s = same_front (header l n) (header k m) x y (length-header l n ∙ sym (length-header k m)) e in
    let t = same_number l k n m h i (sym (header-number l n h) ∙ ap (from_be_bytes w32) s.0 ∙ header-number k m i) in
    (t.0, t.1, s.1)

pub fragment-same : (l k : Bool) (c d x y : List ℕ) → IsContent c → IsContent d → fragment l c ++ x ≡ fragment k d ++ y
    → (l ≡ k) × (c ≡ d) × (x ≡ y)
fragment-same l k c d x y h i e =
    let s = header-same l k (length c) (length d) (c ++ x) (d ++ y) h i (sym (append_assoc (header l (length c)) c x)
    ∙ e ∙ append_assoc (header k (length d)) d y) in
    let t = same_front c d x y s.1 s.2 in
    (s.0, t.0, t.1)

-- two markings at the front of the same bytes are one
marked-same : (firsts gs : List (List ℕ)) (c d x y : List ℕ) → All IsContent firsts → All IsContent gs → IsContent c
    → IsContent d
    → flat_map (fragment false) firsts ++ (fragment true c ++ x) ≡ flat_map (fragment false) gs ++
    (fragment true d ++ y)
    → (concat firsts ++ c ≡ concat gs ++ d) × (x ≡ y)
marked-same [] [] c d x y p q h i e = let s = fragment-same true true c d x y h i e in (s.1, s.2)
marked-same [] (g ∷ gs) c d x y p q h i e =
    let s = fragment-same true false c g x (flat_map (fragment false) gs ++ (fragment true d ++ y)) h
    (q 0 [] (omega arith)) (e ∙ append_assoc (fragment false g) _ _) in
    absurd (true_false s.0)
marked-same (f ∷ fs) [] c d x y p q h i e =
    let s = fragment-same false true f d (flat_map (fragment false) fs ++ (fragment true c ++ x)) y
    (p 0 [] (omega arith)) i (sym (append_assoc (fragment false f) _ _) ∙ e) in
    absurd (true_false (sym s.0))
marked-same (f ∷ fs) (g ∷ gs) c d x y p q h i e =
    let s = fragment-same false false f g _ _ (p 0 [] (omega arith)) (q 0 [] (omega arith))
    (sym (append_assoc (fragment false f) _ _) ∙ e ∙ append_assoc (fragment false g) _ _) in
    let t = marked-same fs gs c d x y (λ k a lt. p (suc k) a (omega arith))
    (λ k a lt. q (suc k) a (omega arith)) h i s.2 in (
      append_assoc f (concat fs) c ∙ ap (λ k. k ++ (concat fs ++ c)) s.1 ∙ ap (λ k. g ++ k) t.0
          ∙ sym (append_assoc g (concat gs) d),
      t.1,
    )

pub Marked-same : (r s front back x y : List ℕ) → Marked r front → Marked s back → front ++ x ≡ back ++ y
    → (r ≡ s) × (x ≡ y)
Marked-same r s front back x y m n e =
    let t = marked-same m.firsts n.firsts m.last n.last x y m.each n.each m.each_last n.each_last
    (sym (ap (λ b. b ++ x) m.spelled ∙ append_assoc (flat_map (fragment false) m.firsts) (fragment true m.last) x) ∙ e
    ∙ ap (λ b. b ++ y) n.spelled ∙ append_assoc (flat_map (fragment false) n.firsts) (fragment true n.last) y) in
    (m.content ∙ t.0 ∙ sym n.content, t.1)

pub one_reading : OneReading
one_reading limit rs whole part s u [] front back w o e = (rs, refl)
one_reading limit [] whole part s u (z ∷ zs) front back w o e =
    absurd (u z o.0 (o.1.0 ++ back) o.1.1.0 (w 0 [] (omega arith)) (sym (ap (λ b. b ++ part) s) ∙ e
    ∙ ap (λ b. b ++ back) o.1.1.2 ∙ append_assoc o.0 o.1.0 back))
one_reading limit (r ∷ rs) whole part s u (z ∷ zs) front back w o e =
    let t = Marked-same r z s.0 o.0 (s.1.0 ++ part) (o.1.0 ++ back) s.1.1.0 o.1.1.0
    (sym (ap (λ q. q ++ part) s.1.1.2 ∙ append_assoc s.0 s.1.0 part) ∙ e ∙ ap (λ q. q ++ back) o.1.1.2
    ∙ append_assoc o.0 o.1.0 back) in
    let rest = one_reading limit rs s.1.0 part s.1.1.1 u zs o.1.0 back
    (λ i d lt. w (suc i) d (omega arith)) o.1.1.1 t.1 in
    (rest.0, ap (λ q. q ∷ rs) t.0 ∙ ap (λ q. z ∷ q) rest.1)
