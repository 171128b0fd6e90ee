-- Words and texts at the front of bytes, and what rules them out.
use Rattle.std.proofs.Common.{◌≡◌, ℕ, ◌+◌, ◌<◌, ◌^◌, List, ◌++◌, length, ap, sym, ◌∙◌, arith}
use Rattle.std.proofs.Common.{append_assoc}
use Rattle.std.proofs.lemmas.List.{length-append, length-replicate}
use Rattle.xdr_units.specs.Numbers.{word, gap, pad, padded}
use Rattle.xdr_units.proofs.Bytes.{same_word, same_content}
use Rattle.registry_answer.specs.Private.Parsed.{text, HasNoText}

-- too few bytes for a word
pub short_word : (b : List ℕ) (n : ℕ) (rest : List ℕ) → length b < 4 → b ≡ word n ++ rest → ⊥
short_word b n rest short e =
    let long : length (word n ++ rest) ≡ 4 + length rest = length-append (word n) rest in
    omega (arith, ap length e, long, short)

pub length-padded : (bs : List ℕ) → length (padded bs) ≡ length bs + gap (length bs)
length-padded bs = length-append bs (pad (length bs))
    ∙ ap (λ (k : ℕ). length bs + k) (length-replicate (gap (length bs)) 0)

-- no text where there is no word
pub text_cut : (b : List ℕ) → length b < 4 → HasNoText b
text_cut b short bs rest small e =
    short_word b (length bs) (padded bs ++ rest) short (e ∙ append_assoc (word (length bs)) (padded bs) rest)

-- no text where there is no content of that length
pub text_without : (n : ℕ) (b behind : List ℕ) → n < 2 ^ 32 → b ≡ word n ++ behind
    → ((content rest : List ℕ) → length content ≡ n → behind ≡ padded content ++ rest → ⊥) → HasNoText b
text_without n b behind fits is none bs rest small e =
    let front = same_word (length bs) n (padded bs ++ rest) behind small fits
    (sym (append_assoc (word (length bs)) (padded bs) rest) ∙ sym e ∙ is) in
    none bs rest front.0 (sym front.1)

-- a length and its content are a text
pub text_whole : (n : ℕ) (b behind bs rest : List ℕ) → b ≡ word n ++ behind → length bs ≡ n → behind ≡ padded bs ++ rest
    → b ≡ text bs ++ rest
text_whole n b behind bs rest is len e =
    is ∙ ap (λ (x : List ℕ). word n ++ x) e ∙ sym (append_assoc (word n) (padded bs) rest)
    ∙ ap (λ (k : ℕ). (word k ++ padded bs) ++ rest) (sym len)

-- a text before anything
pub text_front : (a b x y : List ℕ) → length a < 2 ^ 32 → length b < 2 ^ 32 → text a ++ x ≡ text b ++ y
    → (a ≡ b) × (x ≡ y)
text_front a b x y h k e =
    let front = same_word (length a) (length b) (padded a ++ x) (padded b ++ y) h k
    (sym (append_assoc (word (length a)) (padded a) x) ∙ e ∙ append_assoc (word (length b)) (padded b) y) in
    same_content a b x y front.0 front.1
