-- What two calls do one after the other.
use Rattle.std.proofs.Common.{◌≡◌, ℕ, ◌+◌, ◌-◌, ◌<◌, ◌≤◌, ◌≢◌, ◌==◌, ◌&&◌, nat_lt, if◌then◌else◌, List, [], ◌++◌}
use Rattle.std.proofs.Common.{length, take, drop, Some, None, Option, refl, sym, ap, ◌∙◌, append_assoc, length-append}
use Rattle.std.proofs.Common.{arith}
use Rattle.std.proofs.lemmas.List.{append-nil, take-append-drop, take-take, drop-take, take_rest, take_at, drop_at}
use Rattle.std.proofs.lemmas.List.{length-drop}
use Rattle.std.proofs.lemmas.Bool.Decides.{nat_tests}
use Rattle.std.specs.Io.KnownBytes.{Keeps, Appends, Consumes}
use Rattle.xdr_io.specs.Reported.{Counts, MovesAtMost}

pub Counts-trans : (a b c : Option ℕ) (j k n : ℕ) → j + k ≡ n → Counts j a b → Counts k b c → Counts n a c
Counts-trans None None None j k n e p q = tt
Counts-trans None None (Some z) j k n e p q = q
Counts-trans None (Some y) c j k n e p q = absurd p
Counts-trans (Some x) None None j k n e p q = omega arith
Counts-trans (Some x) None (Some z) j k n e p q = absurd q
Counts-trans (Some x) (Some y) None j k n e p q = omega arith
Counts-trans (Some x) (Some y) (Some z) j k n e p q = omega arith

pub Counts-none : (a : Option ℕ) → Counts 0 a a
Counts-none None = tt
Counts-none (Some x) = omega arith

pub Consumes-trans : (a b c : Option (List ℕ)) (s t u : List ℕ) → s ++ t ≡ u → Consumes a b s → Consumes b c t
    → Consumes a c u
Consumes-trans None b c s t u e p q = tt
Consumes-trans (Some x) None c s t u e p q = absurd p
Consumes-trans (Some x) (Some y) None s t u e p q = absurd q
Consumes-trans (Some x) (Some y) (Some z) s t u e p q = rw (p, q, ← append_assoc s t z, e) refl

pub Consumes-none : (a : Option (List ℕ)) → Consumes a a []
Consumes-none None = tt
Consumes-none (Some x) = refl

pub Appends-trans : (a b c : Option (List ℕ)) (s t u : List ℕ) → s ++ t ≡ u → Appends a b s → Appends b c t
    → Appends a c u
Appends-trans None b c s t u e p q = tt
Appends-trans (Some x) None c s t u e p q = absurd p
Appends-trans (Some x) (Some y) None s t u e p q = absurd q
Appends-trans (Some x) (Some y) (Some z) s t u e p q = rw (q, p, append_assoc x s t, e) refl

pub Appends-none : (a : Option (List ℕ)) → Appends a a []
Appends-none None = tt
Appends-none (Some x) = sym (append-nil x)

-- kept bytes are bytes of which none are consumed, and to which none are appended
pub Consumes-retained : (a b : Option (List ℕ)) → Keeps a b → Consumes a b []
Consumes-retained None b p = tt
Consumes-retained (Some x) None p = absurd p
Consumes-retained (Some x) (Some y) p = sym p

pub Appends-retained : (a b : Option (List ℕ)) → Keeps a b → Appends a b []
Appends-retained None b p = tt
Appends-retained (Some x) None p = absurd p
Appends-retained (Some x) (Some y) p = p ∙ sym (append-nil x)

-- n items, and then m more
pub take-add : (n m : ℕ) (xs : List ℕ) → take n xs ++ take m (drop n xs) ≡ take (n + m) xs
take-add n m xs =
    let le : n ≤ n + m = omega arith in
    ap (λ front. front ++ take m (drop n xs)) (sym (take-take n (n + m) xs le))
    ∙ ap (λ back. take n (take (n + m) xs) ++ back) (sym (drop-take n m xs)) ∙ take-append-drop n (take (n + m) xs)

pub Appends-step : (a b c : Option (List ℕ)) (n m k : ℕ) (xs : List ℕ) → n + m ≡ k → Appends a b (take n xs)
    → Appends b c (take m (drop n xs)) → Appends a c (take k xs)
Appends-step a b c n m k xs e p q = Appends-trans a b c (take n xs) (take m (drop n xs)) (take k xs)
    (take-add n m xs ∙ ap (λ i. take i xs) e) p q

pub Appends-then_retained : (a b c : Option (List ℕ)) (s : List ℕ) → Appends a b s → Keeps b c → Appends a c s
Appends-then_retained None b c s p q = tt
Appends-then_retained (Some x) None c s p q = absurd p
Appends-then_retained (Some x) (Some y) None s p q = absurd q
Appends-then_retained (Some x) (Some y) (Some z) s p q = q ∙ p

-- a piece of a slice from n on, as a write is given it
pub Appends-piece : (a b c : Option (List ℕ)) (n m k : ℕ) (xs : List ℕ) → n + m ≡ k → Appends a b (take n xs)
    → Appends b c (take m (take (length xs - n) (drop n xs))) → Appends a c (take k xs)
Appends-piece a b c n m k xs e p q = Appends-step a b c n m k xs e p (rw take_rest at q)

pub length_rest : (n : ℕ) (xs : List ℕ) → length (take (length xs - n) (drop n xs)) ≡ length xs - n
length_rest n xs = ap length (take_rest xs n) ∙ length-drop n xs

-- a write of 0 bytes of a piece that has some failed
failed_nothing : (n k : ℕ) → n ≡ 0 → 0 < k → ◌≡◌ {A = ℕ} (if (n == 0) && nat_lt 0 k then 1 else 0) 1
failed_nothing n k e h = grind (arith, nat_tests)

failed_some : (n k : ℕ) → n ≢ 0 → ◌≡◌ {A = ℕ} (if (n == 0) && nat_lt 0 k then 1 else 0) 0
failed_some n k e = grind (arith, nat_tests)

pub Counts-nothing : (a b : Option ℕ) (n k : ℕ) → n ≡ 0 → 0 < k → Counts (if (n == 0) && nat_lt 0 k then 1 else 0) a b
    → Counts 1 a b
Counts-nothing a b n k e h p = rw (failed_nothing n k e h) at p

pub Counts-some : (a b : Option ℕ) (n k : ℕ) → n ≢ 0 → Counts (if (n == 0) && nat_lt 0 k then 1 else 0) a b
    → Counts 0 a b
Counts-some a b n k e p = rw (failed_some n k e) at p

pub Consumes-at_end : (a b c : Option (List ℕ)) (s array : List ℕ) (n : ℕ) → n ≡ 0 → Consumes a b s
    → Consumes b c (take n array) → Consumes a c s
Consumes-at_end a b c s array n e p q = Consumes-trans a b c s (take n array) s (ap (λ k. s ++ take k array) e
    ∙ append-nil s) p q

pub Consumes-then_retained : (a b c : Option (List ℕ)) (s : List ℕ) → Consumes a b s → Keeps b c → Consumes a c s
Consumes-then_retained None b c s p q = tt
Consumes-then_retained (Some x) None c s p q = absurd p
Consumes-then_retained (Some x) (Some y) None s p q = absurd q
Consumes-then_retained (Some x) (Some y) (Some z) s p q = p ∙ ap (λ k. s ++ k) (sym q)

pub Consumes-nothing : (a : Option (List ℕ)) (s : List ℕ) → s ≡ [] → Consumes a a s
Consumes-nothing a s e = Consumes-trans a a a [] [] s (sym e) (Consumes-none a) (Consumes-none a)

-- a list, and the front of another
pub take_past : (xs ys : List ℕ) (n : ℕ) → xs ++ take n ys ≡ take (length xs + n) (xs ++ ys)
take_past xs ys n =
    ap (λ k. k ++ take n ys) (sym (take_at xs ys (length xs) refl)) ∙ ap (λ k. take (length xs) (xs ++ ys) ++ take n k)
    (sym (drop_at xs ys (length xs) refl)) ∙ take-add (length xs) n (xs ++ ys)

pub MovesAtMost-retained : (n : ℕ) (a b : Option (List ℕ)) → Keeps a b → MovesAtMost n a b
MovesAtMost-retained n a b p = record { input = []; few = omega arith; read = Consumes-retained a b p }

-- some bytes were moved, and then some more
pub MovesAtMost-after : (n m : ℕ) (a b c : Option (List ℕ)) (s : List ℕ) → length s ≤ n → Consumes a b s
    → MovesAtMost m b c → MovesAtMost (n + m) a c
MovesAtMost-after n m a b c s few p q = record {
  input = s ++ q.input;
  few = omega (arith, few, q.few, length-append s q.input);
  read = Consumes-trans a b c s q.input (s ++ q.input) refl p q.read;
}
