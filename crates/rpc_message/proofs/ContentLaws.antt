-- A word and content, as the readers of units find them.
use Rattle.std.proofs.Common.{◌≡◌, ◌≢◌, ℕ, ◌+◌, ◌<◌, ◌≤◌, Bool, true, false, ltb, List, [], ◌++◌, length, drop}
use Rattle.std.proofs.Common.{replicate, Ok, Err, refl, sym, ap, ◌∙◌, append_assoc, arith, inl, inr}
use Rattle.std.proofs.lemmas.Bool.{cases_lt, le-ltb, lt-ltb}
use Rattle.std.proofs.lemmas.List.{take_at, drop_at, length-append, length-drop, nil_from_length}
use Rattle.rpc_message.specs.declared.fault.ReplyFault.TheVariants.{Truncated, BadAuth}
use Rattle.xdr_units.specs.Fronts.{HasBadPadding}
use Rattle.xdr_units.specs.Numbers.{word, gap, pad, padded, IsWord}
use Rattle.rpc_message.specs.Private.Reading.{are_zeros, word_at, padding_at, opaque_at}
use Rattle.rpc_message.proofs.FieldLaws.{word_again, zeros_are, are_zeros-replicate, padding_again}

pub word_found : (bytes rest : List ℕ) (n : ℕ) → IsWord n → bytes ≡ word n ++ rest → word_at bytes ≡ Ok (n, rest)
word_found bytes rest n fits parts = ap word_at parts ∙ word_again n rest fits

pub no_word : (bytes : List ℕ) → length bytes < 4 → word_at bytes ≡ Err Truncated
unfolding word_at
no_word bytes short = rw (lt-ltb (length bytes) 4 short) refl

front_found : (most : ℕ) (bytes body rest : List ℕ)
    → word_at bytes ≡ Ok (length body, body ++ (pad (length body) ++ rest))
    → length body ≤ most → opaque_at most bytes ≡ Ok (body, rest)
unfolding opaque_at
front_found most bytes body rest w few =
    let n = length body in
    let behind = pad n ++ rest in
    let fits : ltb most n ≡ false = le-ltb _ _ few in
    let long : ltb (length (body ++ behind)) n ≡ false = le-ltb _ _ (omega (arith, length-append body behind)) in
    rw (w, fits, long, take_at body behind n refl, drop_at body behind n refl, padding_again n rest) refl

pub content_found : (most count : ℕ) (bytes rest body after : List ℕ) → word_at bytes ≡ Ok (count, rest) → count ≤ most
    → length body ≡ count → rest ≡ padded body ++ after → opaque_at most bytes ≡ Ok (body, after)
content_found most count bytes rest body after w few size parts =
    let regrouped : rest ≡ body ++ (pad (length body) ++ after) = parts ∙ append_assoc body (pad (length body)) after in
    front_found most bytes body after (w ∙ (λ j. Ok (sym size j, regrouped j))) (omega (arith, size, few))

not_zero : (bytes : List ℕ) → bytes ≢ replicate (length bytes) 0 → are_zeros bytes ≡ false
not_zero bytes other = by (are_zeros bytes) refl
  where
    by : (b : Bool) → are_zeros bytes ≡ b → b ≡ false
    by false e = refl
    by true e = absurd (other (zeros_are bytes e))

pub padding_wrong : (most count : ℕ) (bytes rest : List ℕ) → word_at bytes ≡ Ok (count, rest) → count ≤ most
    → HasBadPadding count rest → opaque_at most bytes ≡ Err BadAuth
unfolding opaque_at padding_at
padding_wrong most count bytes rest w few h =
    let behind = h.filling ++ h.rest in
    let size : length rest ≡ count + length behind = ap length h.parts ∙ length-append h.content behind
    ∙ ap (λ (k : ℕ). k + length behind) h.sized in
    let dropped : drop count rest ≡ behind = ap (drop count) h.parts ∙ drop_at h.content behind count h.sized in
    let fits : ltb most count ≡ false = le-ltb _ _ few in
    let long : ltb (length rest) count ≡ false = le-ltb _ _ (omega (arith, size)) in
    let filled : ltb (length behind) (gap count) ≡ false =
    le-ltb _ _ (omega (arith, length-append h.filling h.rest, h.filled)) in
    let other : h.filling ≢ replicate (length h.filling) 0 =
    λ e. h.other (e ∙ ap (λ (k : ℕ). replicate k 0) h.filled) in
    rw (w, fits, long, dropped, filled, take_at h.filling h.rest (gap count) h.filled, not_zero h.filling other) refl

-- what is there of the padding
abbrev behind_of : ℕ → List ℕ → List ℕ
behind_of count bytes = drop count bytes

none_behind : (count : ℕ) (bytes : List ℕ) → length bytes ≤ count → drop count bytes ≡ []
none_behind count bytes short = nil_from_length (drop count bytes) (omega (arith, length-drop count bytes))

pub zero_behind : (count : ℕ) (bytes : List ℕ) → length bytes ≤ count
    → drop count bytes ≡ replicate (length (drop count bytes)) 0
zero_behind count bytes short = let e = none_behind count bytes short in e
    ∙ ap (λ (t : List ℕ). replicate (length t) 0) (sym e)

pub content_cut : (most count : ℕ) (bytes rest : List ℕ) → word_at bytes ≡ Ok (count, rest) → count ≤ most
    → length rest < count + gap count → behind_of count rest ≡ replicate (length (behind_of count rest)) 0
    → opaque_at most bytes ≡ Err Truncated
unfolding opaque_at padding_at
content_cut most count bytes rest w few short zeros =
    let fits : ltb most count ≡ false = le-ltb _ _ few in
    elim (cases_lt (length rest) count) [
      | inl lt ↦ rw (w, fits, lt-ltb (length rest) count lt) refl
      | inr le ↦
          let cut : ltb (length (drop count rest)) (gap count) ≡ true =
          lt-ltb _ _ (omega (arith, length-drop count rest)) in
          let all : are_zeros (drop count rest) ≡ true = ap are_zeros zeros
          ∙ are_zeros-replicate (length (drop count rest)) in
          rw (w, fits, le-ltb (length rest) count le, cut, all) refl
    ]

pub padding_cut_wrong : (most count : ℕ) (bytes rest : List ℕ) → word_at bytes ≡ Ok (count, rest) → count ≤ most
    → length rest < count + gap count → behind_of count rest ≢ replicate (length (behind_of count rest)) 0
    → opaque_at most bytes ≡ Err BadAuth
unfolding opaque_at padding_at
padding_cut_wrong most count bytes rest w few short other =
    let fits : ltb most count ≡ false = le-ltb _ _ few in
    elim (cases_lt (length rest) count) [
      | inl lt ↦ absurd (other (zero_behind count rest (omega (arith, lt))))
      | inr le ↦
          let cut : ltb (length (drop count rest)) (gap count) ≡ true =
          lt-ltb _ _ (omega (arith, length-drop count rest)) in
          rw (w, fits, le-ltb (length rest) count le, cut, not_zero (drop count rest) other) refl
    ]
