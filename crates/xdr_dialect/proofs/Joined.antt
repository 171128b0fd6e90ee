-- A text without its lines of % and #, one byte after another.
use Rattle.std.proofs.Common.{◌≡◌, ℕ, suc, ◌+◌, add-one, arith, List, [], ◌∷◌, ◌++◌, length}
use Rattle.std.proofs.Common.{refl, sym, ap, ◌∙◌, append_assoc, ◌-◌, ◌≤◌, take, drop, slice_index_or}
use Rattle.std.proofs.lemmas.List.{append-nil}
use Rattle.std.proofs.Math.Seq.{take-length}
use Rattle.xdr_dialect.specs.Answers.{Refuses}
use Rattle.xdr_dialect.specs.Private.Steps.{RefusesStep}
use Rattle.std.proofs.Common.{Some, None, Result, Ok, Err}
use Rattle.xdr_tokens.specs.declared.fault.Fault.{Fault}
use Rattle.xdr_tokens.specs.declared.fault.Fault.TheVariants as fault
use Rattle.xdr_tokens.specs.declared.fault.Wrong.TheVariants as wrong
use Rattle.xdr_dialect.specs.Plain.{Standing, turn, joined, ended, plain_from}

-- no bytes before
pub joined_none : (r : Result (List ℕ) Fault) → joined [] r ≡ r
joined_none (Ok bs) = refl
joined_none (Err e) = refl

-- bytes before bytes
pub joined_twice : (xs ys : List ℕ) (r : Result (List ℕ) Fault) → joined xs (joined ys r) ≡ joined (xs ++ ys) r
joined_twice xs ys (Ok bs) = ap (λ (l : List ℕ). Ok l) (sym (append_assoc xs ys bs))
joined_twice xs ys (Err e) = refl

-- a byte more
pub joined_step : (names : List (List ℕ)) (s : Standing) (b : ℕ) (bs rest items : List ℕ) (byte : ℕ) (next : Standing)
    → rest ≡ b ∷ bs → turn names s b bs ≡ Some (record { byte = byte; next = next })
    → joined items (plain_from names s rest) ≡ joined (items ++ byte ∷ []) (plain_from names next bs)
unfolding plain_from
joined_step names s b bs rest items byte next is e =
    rw (is, e) (joined_twice items (byte ∷ []) (plain_from names next bs))

-- a line that has no meaning
pub joined_fails : (names : List (List ℕ)) (s : Standing) (b : ℕ) (bs rest items : List ℕ) → rest ≡ b ∷ bs
    → turn names s b bs ≡ None
    → joined items (plain_from names s rest) ≡ Err (fault.Refused wrong.BadCharacter (length bs + 1))
unfolding plain_from
joined_fails names s b bs rest items is e = rw (is, e, add-one) refl

-- the same of a step that is refused
pub joined_refused : (names : List (List ℕ)) (s : Standing) (b : ℕ) (bs rest items : List ℕ)
    (whole : Result (List ℕ) Fault) (e : Fault) → rest ≡ b ∷ bs → whole ≡ joined items (plain_from names s rest)
    → RefusesStep e (turn names s b bs) (length bs + 1) → Refuses e whole
joined_refused names s b bs rest items whole fault.NoMemory is all h = tt
joined_refused names s b bs rest items whole (fault.Refused w l) is all h =
    let err : Fault → Result (List ℕ) Fault = λ f. Err f in
    all ∙ (joined_fails names s b bs rest items is h.0 ∙ ap err (sym h.1))

-- the end
joined_end : (names : List (List ℕ)) (s : Standing) (rest items : List ℕ) → length rest ≡ 0
    → joined items (plain_from names s rest) ≡ joined items (ended s.outer)
unfolding plain_from
joined_end names s [] items z = refl
joined_end names s (b ∷ bs) items z = absurd (omega arith)

pub joined_whole : (names : List (List ℕ)) (s : Standing) (rest items : List ℕ) (whole : Result (List ℕ) Fault)
    → length rest ≡ 0 → whole ≡ joined items (plain_from names s rest) → ended s.outer ≡ Ok [] → whole ≡ Ok items
joined_whole names s rest items whole z all e =
    all ∙ (joined_end names s rest items z ∙ rw e (ap (λ (l : List ℕ). Ok l) (append-nil items)))

pub joined_open : (names : List (List ℕ)) (s : Standing) (rest items : List ℕ) (whole : Result (List ℕ) Fault)
    (e : Fault) → length rest ≡ 0 → whole ≡ joined items (plain_from names s rest) → Refuses e (ended s.outer)
    → Refuses e whole
joined_open names s rest items whole fault.NoMemory z all h = tt
joined_open names s rest items whole (fault.Refused w l) z all h =
    all ∙ (joined_end names s rest items z ∙ rw h refl)

-- what is in front of bytes, and what follows it
pub front_byte : (bs : List ℕ) → 1 ≤ length bs → bs ≡ slice_index_or bs 0 0 ∷ take (length bs - 1) (drop 1 bs)
front_byte [] h = absurd (omega arith)
front_byte (b ∷ bs) h =
    let e : suc (length bs) - 1 ≡ length bs = omega arith in
    rw e (ap (λ (l : List ℕ). b ∷ l) (sym (take-length bs)))
