-- How many records a stream has, and how long its normal form is.
use Rattle.std.proofs.Common.{◌≡◌, ℕ, List, [], ◌∷◌, Option, Some}
use Rattle.std.proofs.Common.{sym}
use Rattle.std.proofs.Common.{subst, arith}
use Rattle.std.specs.Io.KnownBytes.{Appends, Consumes}
use Rattle.rpc_record.specs.declared.fault.Count.{Count}
use Rattle.rpc_record.specs.Marked.{header, normal, OneLongest}
use Rattle.rpc_record.specs.Reading.{IsWhole, WholeIsLongest}
use Rattle.rpc_record.specs.Normalised.{Normalised, IsCount}
use Rattle.rpc_record.proofs.Streams.{Upto-none, Upto-first, Upto-last, whole_none, whole_push}
use Rattle.xdr_io.proofs.Ended.{all_read}

-- what was normalised is counted and written by any reading of the bytes as records
pub counted : OneLongest → WholeIsLongest → (limit : ℕ) (rs : List (List ℕ)) (bytes : List ℕ) → IsWhole limit rs bytes
    → (left left' t u : Option (List ℕ)) (count : Count) → left ≡ Some bytes → Normalised limit left left' t u count
    → IsCount count rs × Appends t u (normal rs)
counted one whole limit rs bytes w left left' t u count reported n =
    let same = all_read bytes n.input left' (subst (λ k. Consumes k left' n.input) reported n.read) n.end in
    let all = subst (λ b. IsWhole limit n.rs b) (sym same) n.whole in
    let others : n.rs ≡ rs = one limit n.rs rs bytes (whole limit n.rs bytes all) (whole limit rs bytes w) in
    (subst (λ k. IsCount count k) others n.counted, subst (λ k. Appends t u (normal k)) others n.written)

pub nothing_is_whole : IsWhole 100 [] []
nothing_is_whole = whole_none 100

-- 00000000 00000000 80000000
pub empty_is_whole : IsWhole 0 ([] ∷ []) (0 ∷ 0 ∷ 0 ∷ 0 ∷ 0 ∷ 0 ∷ 0 ∷ 0 ∷ 128 ∷ 0 ∷ 0 ∷ 0 ∷ [])
unfolding header
empty_is_whole =
    let first = Upto-first 0 [] [] [] [] (Upto-none 0) (omega arith) (omega arith) in
    let second = Upto-first 0 [] [] (0 ∷ 0 ∷ 0 ∷ 0 ∷ []) [] first (omega arith) (omega arith) in
    Upto-last 0 [] [] (0 ∷ 0 ∷ 0 ∷ 0 ∷ 0 ∷ 0 ∷ 0 ∷ 0 ∷ []) [] second (omega arith) (omega arith)

-- 00000002 6162 80000001 63
pub abc_is_whole : IsWhole 100 ((97 ∷ 98 ∷ 99 ∷ []) ∷ []) (0 ∷ 0 ∷ 0 ∷ 2 ∷ 97 ∷ 98 ∷ 128 ∷ 0 ∷ 0 ∷ 1 ∷ 99 ∷ [])
unfolding header
abc_is_whole =
    let begun = Upto-first 100 [] [] [] (97 ∷ 98 ∷ []) (Upto-none 100) (omega arith) (omega arith) in
    Upto-last 100 [] (97 ∷ 98 ∷ []) (0 ∷ 0 ∷ 0 ∷ 2 ∷ 97 ∷ 98 ∷ []) (99 ∷ []) begun (omega arith) (omega arith)

-- 80000001 61 80000000
pub two_are_whole : IsWhole 100 ((97 ∷ []) ∷ [] ∷ []) (128 ∷ 0 ∷ 0 ∷ 1 ∷ 97 ∷ 128 ∷ 0 ∷ 0 ∷ 0 ∷ [])
unfolding header
two_are_whole =
    let one = whole_push 100 [] [] (97 ∷ []) (whole_none 100) (omega arith) (omega arith) in
    whole_push 100 ((97 ∷ []) ∷ []) (128 ∷ 0 ∷ 0 ∷ 1 ∷ 97 ∷ []) [] one (omega arith) (omega arith)
