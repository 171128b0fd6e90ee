-- Bytes spelled by digits, two after two.
use Rattle.std.proofs.Common.{◌≡◌, ℕ, ◌+◌, ◌*◌, ◌%◌, List, [], ◌∷◌, ◌++◌, length, Option, Some, None}
use Rattle.std.proofs.Common.{Result, Ok, Err, Bool, true, false, nat_eq, slice_index_or, refl, sym, ap, ◌∙◌}
use Rattle.std.proofs.Common.{◌<◌, ◌≤◌, take, drop, not, arith, suc, zero, length-append}
use Rattle.std.proofs.lemmas.List.{append_assoc, append-nil, take-append-drop}
use Rattle.std.proofs.lemmas.List.Elements.{filter-append}
use Rattle.std.proofs.lemmas.List.Sums.{length-filter, count_by-le-length}
use Rattle.std.specs.Option.{unwrap_or}
use Rattle.std.proofs.lemmas.Bool.{agree_below_at}
use Rattle.std.proofs.lemmas.Bool.Decides.{Decides-eqb}
use Rattle.hex.specs.Hex.{decode_of, decode_pairs, digit_or_error, hex_digit_value, ◌>>=◌}
use Rattle.hex.proofs.HexLemmas.{decode_of-even, decode_of-odd}
use Rattle.hex.specs.declared.error.FromHexError.{FromHexError}
use Rattle.oncrpc_tasks.specs.Hexadecimal.{is_space, digits}
use Rattle.oncrpc_tasks.specs.Private.Hexed.{byte_of, begun, pairs, joined}

-- bytes before those before others
pub joined_joined : (front : List ℕ) (byte : ℕ) (rest : Option (List ℕ))
    → joined front (joined (byte ∷ []) rest) ≡ joined (front ++ byte ∷ []) rest
joined_joined front byte None = refl
joined_joined front byte (Some rest) = ap Some (sym (append_assoc front (byte ∷ []) rest))

-- what a decoding found
abbrev found_in : Result (List ℕ) FromHexError → Option (List ℕ)
found_in (Ok bytes) = Some bytes
found_in (Err e) = None

-- a pair of digits and those after it
one-pair : (h l : Option ℕ) (r : Result (List ℕ) FromHexError) (a b i : ℕ)
    → found_in ((digit_or_error a i h >>= (λ x. digit_or_error b (i + 1) l >>= (λ y. Ok (x * 16 + y))))
    >>= (λ byte. r >>= (λ bytes. Ok (byte ∷ bytes)))) ≡ begun (byte_of h l) (found_in r)
one-pair None l r a b i = refl
one-pair (Some x) None r a b i = refl
one-pair (Some x) (Some y) (Ok bytes) a b i = refl
one-pair (Some x) (Some y) (Err e) a b i = refl

-- the kit's decoding finds the same bytes
found-pairs : (i : ℕ) (ds : List ℕ) → found_in (decode_pairs i ds) ≡ pairs ds
unfolding decode_pairs pairs
found-pairs i [] = refl
found-pairs i (d ∷ []) = refl
found-pairs i (h ∷ l ∷ rest) =
    one-pair (hex_digit_value h) (hex_digit_value l) (decode_pairs (i + 2) rest) h l i
    ∙ ap (begun (byte_of (hex_digit_value h) (hex_digit_value l))) (found-pairs (i + 2) rest)

-- where the rest spells none, no digits before it do
begun-none : (byte : Option ℕ) → begun byte None ≡ None
begun-none None = refl
begun-none (Some byte) = refl

-- digits of an odd count spell none
pub odd_none : (ds : List ℕ) → length ds % 2 ≡ 1 → pairs ds ≡ None
unfolding pairs
odd_none [] odd = cc odd
odd_none (d ∷ []) odd = refl
odd_none (h ∷ l ∷ rest) odd =
    let fewer : length rest % 2 ≡ 1 = omega (arith, odd) in
    ap (begun (byte_of (hex_digit_value h) (hex_digit_value l))) (odd_none rest fewer)
    ∙ begun-none (byte_of (hex_digit_value h) (hex_digit_value l))

-- and where none are left, nothing more is spelled
pub none_left : (found : List ℕ) (ds : List ℕ) → length ds ≡ 0 → joined found (pairs ds) ≡ Some found
unfolding pairs
none_left found [] none = ap Some (append-nil found)
none_left found (d ∷ rest) none = absurd (omega (arith, none))

-- what the kit's decoding finds is so whatever the count of the digits
found-by : (ds : List ℕ) (m : ℕ) → length ds % 2 ≡ m → found_in (decode_of ds) ≡ pairs ds
found-by ds zero even = ap found_in (decode_of-even ds even) ∙ found-pairs 0 ds
found-by ds (suc zero) odd = ap found_in (decode_of-odd ds odd) ∙ sym (odd_none ds odd)
found-by ds (suc (suc m)) more = absurd (omega (arith, more))

found-ok : (r : Result (List ℕ) FromHexError) (bs : List ℕ) → found_in r ≡ Some bs → r ≡ Ok bs
found-ok (Ok x) bs e = cc e
found-ok (Err x) bs e = cc e

found-none : (r : Result (List ℕ) FromHexError) (bs : List ℕ) → found_in r ≡ None → r ≡ Ok bs → ⊥
found-none (Ok x) bs e d = cc e
found-none (Err x) bs e d = cc d

-- digits that spell bytes are decoded to them
pub spelled : (ds bs : List ℕ) → pairs ds ≡ Some bs → decode_of ds ≡ Ok bs
spelled ds bs e = found-ok (decode_of ds) bs (found-by ds (length ds % 2) refl ∙ e)

-- and others to none
pub unspelled : (ds bs : List ℕ) → pairs ds ≡ None → decode_of ds ≡ Ok bs → ⊥
unspelled ds bs e d = found-none (decode_of ds) bs (found-by ds (length ds % 2) refl ∙ e) d

-- what the loop over pairs needs
pub ruleset decoding = (spelled, unspelled, odd_none, none_left, joined_joined)

-- a text has no more digits than bytes
pub no_more : (text : List ℕ) → length (digits text) ≤ length text
no_more text =
    let kept : ℕ → Bool = λ b. not (is_space b) in
    rw length-filter (count_by-le-length kept text)

-- digits of a text are those of its front and of the rest
pub in_parts : (n : ℕ) (text : List ℕ)
    → length (digits (take n text)) + length (digits (drop n text)) ≡ length (digits text)
in_parts n text =
    sym (length-append (digits (take n text)) (digits (drop n text)))
    ∙ ap length (sym (filter-append (λ (b : ℕ). not (is_space b)) (take n text) (drop n text)))
    ∙ ap (λ (t : List ℕ). length (digits t)) (take-append-drop n text)

-- a digit is no white space
no-space : (c v : ℕ) → hex_digit_value c ≡ Some v → is_space c ≡ false
no-space c v e = grind (arith, e)

-- digits that spell a byte stay where white space is dropped
pub pair_first : (h l byte : ℕ) (rest : List ℕ) → byte_of (hex_digit_value h) (hex_digit_value l) ≡ Some byte
    → digits (h ∷ l ∷ rest) ≡ h ∷ l ∷ digits rest
pair_first h l byte rest e = by (hex_digit_value h) (hex_digit_value l) refl refl e
  where
    by : (x y : Option ℕ) → hex_digit_value h ≡ x → hex_digit_value l ≡ y → byte_of x y ≡ Some byte
        → digits (h ∷ l ∷ rest) ≡ h ∷ l ∷ digits rest
    by None y i j e = cc e
    by (Some x) None i j e = cc e
    by (Some x) (Some y) i j e =
        let first : is_space h ≡ false = no-space h x i in
        let second : is_space l ≡ false = no-space l y j in
        simp (first, second)

-- the values of digits, and 255 for each byte that is none
abbrev pub table : List ℕ
table =
    255 ∷ 255 ∷ 255 ∷ 255 ∷ 255 ∷ 255 ∷ 255 ∷ 255 ∷ 255 ∷ 255 ∷ 255 ∷ 255 ∷ 255 ∷ 255 ∷ 255 ∷ 255 ∷
    255 ∷ 255 ∷ 255 ∷ 255 ∷ 255 ∷ 255 ∷ 255 ∷ 255 ∷ 255 ∷ 255 ∷ 255 ∷ 255 ∷ 255 ∷ 255 ∷ 255 ∷ 255 ∷
    255 ∷ 255 ∷ 255 ∷ 255 ∷ 255 ∷ 255 ∷ 255 ∷ 255 ∷ 255 ∷ 255 ∷ 255 ∷ 255 ∷ 255 ∷ 255 ∷ 255 ∷ 255 ∷
    0 ∷ 1 ∷ 2 ∷ 3 ∷ 4 ∷ 5 ∷ 6 ∷ 7 ∷ 8 ∷ 9 ∷ 255 ∷ 255 ∷ 255 ∷ 255 ∷ 255 ∷ 255 ∷
    255 ∷ 10 ∷ 11 ∷ 12 ∷ 13 ∷ 14 ∷ 15 ∷ 255 ∷ 255 ∷ 255 ∷ 255 ∷ 255 ∷ 255 ∷ 255 ∷ 255 ∷ 255 ∷
    255 ∷ 255 ∷ 255 ∷ 255 ∷ 255 ∷ 255 ∷ 255 ∷ 255 ∷ 255 ∷ 255 ∷ 255 ∷ 255 ∷ 255 ∷ 255 ∷ 255 ∷ 255 ∷
    255 ∷ 10 ∷ 11 ∷ 12 ∷ 13 ∷ 14 ∷ 15 ∷ 255 ∷ 255 ∷ 255 ∷ 255 ∷ 255 ∷ 255 ∷ 255 ∷ 255 ∷ 255 ∷
    255 ∷ 255 ∷ 255 ∷ 255 ∷ 255 ∷ 255 ∷ 255 ∷ 255 ∷ 255 ∷ 255 ∷ 255 ∷ 255 ∷ 255 ∷ 255 ∷ 255 ∷ 255 ∷
    255 ∷ 255 ∷ 255 ∷ 255 ∷ 255 ∷ 255 ∷ 255 ∷ 255 ∷ 255 ∷ 255 ∷ 255 ∷ 255 ∷ 255 ∷ 255 ∷ 255 ∷ 255 ∷
    255 ∷ 255 ∷ 255 ∷ 255 ∷ 255 ∷ 255 ∷ 255 ∷ 255 ∷ 255 ∷ 255 ∷ 255 ∷ 255 ∷ 255 ∷ 255 ∷ 255 ∷ 255 ∷
    255 ∷ 255 ∷ 255 ∷ 255 ∷ 255 ∷ 255 ∷ 255 ∷ 255 ∷ 255 ∷ 255 ∷ 255 ∷ 255 ∷ 255 ∷ 255 ∷ 255 ∷ 255 ∷
    255 ∷ 255 ∷ 255 ∷ 255 ∷ 255 ∷ 255 ∷ 255 ∷ 255 ∷ 255 ∷ 255 ∷ 255 ∷ 255 ∷ 255 ∷ 255 ∷ 255 ∷ 255 ∷
    255 ∷ 255 ∷ 255 ∷ 255 ∷ 255 ∷ 255 ∷ 255 ∷ 255 ∷ 255 ∷ 255 ∷ 255 ∷ 255 ∷ 255 ∷ 255 ∷ 255 ∷ 255 ∷
    255 ∷ 255 ∷ 255 ∷ 255 ∷ 255 ∷ 255 ∷ 255 ∷ 255 ∷ 255 ∷ 255 ∷ 255 ∷ 255 ∷ 255 ∷ 255 ∷ 255 ∷ 255 ∷
    255 ∷ 255 ∷ 255 ∷ 255 ∷ 255 ∷ 255 ∷ 255 ∷ 255 ∷ 255 ∷ 255 ∷ 255 ∷ 255 ∷ 255 ∷ 255 ∷ 255 ∷ 255 ∷
    255 ∷ 255 ∷ 255 ∷ 255 ∷ 255 ∷ 255 ∷ 255 ∷ 255 ∷ 255 ∷ 255 ∷ 255 ∷ 255 ∷ 255 ∷ 255 ∷ 255 ∷ 255 ∷ []

abbrev agrees : ℕ → Bool
agrees c = nat_eq (slice_index_or table c 0) (unwrap_or (hex_digit_value c) 255)

-- each entry of the table is right
pub values_are : (c : ℕ) → c < 256 → slice_index_or table c 0 ≡ unwrap_or (hex_digit_value c) 255
values_are c lt = (Decides-eqb _ _).0 (agree_below_at agrees (λ _. true) 256 c refl lt)

small : (c : ℕ) (o : Option ℕ) → hex_digit_value c ≡ o → (v : ℕ) → o ≡ Some v → v < 16
small c o is v e = grind (arith, is, e)

-- a value below 16 is that of a digit, and any other that of none
pub digits_are : (c v : ℕ) → v ≡ unwrap_or (hex_digit_value c) 255
    → (v < 16 → hex_digit_value c ≡ Some v) × ((v < 16 → ⊥) → hex_digit_value c ≡ None)
digits_are c v e = by (hex_digit_value c) refl
  where
    by : (o : Option ℕ) → hex_digit_value c ≡ o
        → (v < 16 → hex_digit_value c ≡ Some v) × ((v < 16 → ⊥) → hex_digit_value c ≡ None)
    by None is = (λ lt. absurd (omega (arith, lt, e, ap (λ (o : Option ℕ). unwrap_or o 255) is)), λ _. is)
    by (Some x) is =
        let same : v ≡ x = e ∙ ap (λ (o : Option ℕ). unwrap_or o 255) is in
        (λ lt. is ∙ ap Some (sym same), λ no. absurd (no (omega (arith, same, small c (Some x) is x refl))))
