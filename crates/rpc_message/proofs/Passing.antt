-- Passing over words one after the other, as a loop does.
use Rattle.std.proofs.Common.{◌≡◌, ℕ, suc, ◌-◌, ◌+◌, ◌≤◌, ◌<◌, List, ◌∷◌, Result, Ok, Err, refl, arith}
use Rattle.rpc_message.specs.declared.fault.ReplyFault.{ReplyFault}
use Rattle.rpc_message.specs.Private.Reading.{◌>>=◌, word_at, words_at}
use Rattle.rpc_message.specs.Private.Passing.{behind, behind_words}

-- A word in front of what was read changes nothing behind it.
same_behind : (n : ℕ) (read : Result (List ℕ × List ℕ) ReplyFault)
    → behind (read >>= λ x. Ok (n ∷ x.0, x.1)) ≡ behind read
same_behind n (Ok x) = refl
same_behind n (Err f) = refl

pub goes_past : (count i : ℕ) (bytes : List ℕ) (n : ℕ) (after : List ℕ) → i < count → word_at bytes ≡ Ok (n, after)
    → behind_words (count - i) bytes ≡ behind_words (count - (i + 1)) after
unfolding words_at
goes_past count i bytes n after lt h =
    let k : count - i ≡ suc (count - (i + 1)) = omega arith in
    rw (k, h) (same_behind n (words_at (count - (i + 1)) after))

pub is_cut : (e : ReplyFault) (count i : ℕ) (bytes : List ℕ) → i < count → word_at bytes ≡ Err e
    → behind_words (count - i) bytes ≡ Err e
unfolding words_at
is_cut e count i bytes lt h =
    let k : count - i ≡ suc (count - (i + 1)) = omega arith in
    rw (k, h) refl

pub is_past : (count i : ℕ) (bytes : List ℕ) → count ≤ i → behind_words (count - i) bytes ≡ Ok bytes
unfolding words_at
is_past count i bytes le =
    let k : count - i ≡ 0 = omega arith in
    rw k refl
