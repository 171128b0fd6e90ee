-- Counts of records and bytes, one record further.
use Rattle.std.proofs.Common.{◌≡◌, ℕ, ◌+◌, ◌-◌, ◌^◌, ◌<◌, min, true, List, Option, take, subst, [], ◌∷◌, ◌++◌, length}
use Rattle.std.proofs.Common.{sym, ap, ◌∙◌, length-append, arith}
use Rattle.std.proofs.lemmas.List.{append-nil, length_push}
use Rattle.std.specs.Io.KnownBytes.{Appends}
use Rattle.std.proofs.lemmas.List.Concat.{flat_map-append}
use Rattle.rpc_record.specs.declared.fault.Count.{Count}
use Rattle.rpc_record.specs.Marked.{header, fragment, normal, FragmentLength}
use Rattle.rpc_record.specs.Reading.{capped}
use Rattle.rpc_record.specs.Normalised.{IsCount}
use Rattle.rpc_record.proofs.Headers.{length-header}

pub length-fragment_of : FragmentLength
length-fragment_of last r = length-append (header last (length r)) r
    ∙ ap (λ n. n + length r) (length-header last (length r))

pub length-fragment : (r : List ℕ) → length (fragment true r) ≡ 4 + length r
length-fragment r = length-fragment_of true r

pub normal-append : (rs more : List (List ℕ)) → normal (rs ++ more) ≡ normal rs ++ normal more
normal-append rs more = flat_map-append (fragment true) rs more

pub length-normal-push : (rs : List (List ℕ)) (r : List ℕ)
    → length (normal (rs ++ r ∷ [])) ≡ length (normal rs) + (4 + length r)
length-normal-push rs r = ap length (normal-append rs (r ∷ [])) ∙ length-append (normal rs) (fragment true r ++ [])
    ∙ ap (λ n. length (normal rs) + n) (ap length (append-nil (fragment true r)) ∙ length-fragment r)

pub IsCount-more : (old new : Count) (rs : List (List ℕ)) (r : List ℕ)
    → new.records ≡ min (old.records + 1) (2 ^ 64 - 1)
    → new.bytes ≡ min (min (old.bytes + 4) (2 ^ 64 - 1) + length r) (2 ^ 64 - 1) → IsCount old rs
    → IsCount new (rs ++ r ∷ [])
IsCount-more old new rs r e f h = record {
  records = omega (arith, length_push rs r, h.records, e);
  bytes = omega (arith, length-normal-push rs r, h.bytes, f);
}

marked_alone : (s t : List ℕ) → s ≡ t → fragment true s ≡ normal (t ∷ [])
marked_alone s t e = ap (λ r. fragment true r) e ∙ sym (append-nil (fragment true t))

pub Appends-marked : (a b : Option (List ℕ)) (s t : List ℕ) → s ≡ t → Appends a b (fragment true s)
    → Appends a b (normal (t ∷ []))
Appends-marked a b s t e h = subst (λ k. Appends a b k) (marked_alone s t e) h

pub Appends-cut : (a b : Option (List ℕ)) (s t : List ℕ) (n : ℕ) → s ≡ t
    → (n < length (fragment true s)) × Appends a b (take n (fragment true s))
    → (n < length (normal (t ∷ []))) × Appends a b (take n (normal (t ∷ [])))
Appends-cut a b s t n e h = subst (λ k. (n < length k) × Appends a b (take n k)) (marked_alone s t e) h

pub capped-more : (count n k w : ℕ) → count ≡ capped n → k ≡ min (count + w) (2 ^ 64 - 1) → k ≡ capped (n + w)
capped-more count n k w e f = omega arith
