-- Rows that were laid one behind another are the rows that C sees.
use Rattle.std.proofs.Common.{◌≡◌, ℕ, zero, suc, ◌+◌, ◌≤◌, List, [], ◌∷◌, ◌++◌, length, drop, refl, sym, ap, ◌∙◌}
use Rattle.std.proofs.Common.{append_assoc, append-nil, slice_get, Option, Some, None, is_some, true≢false, arith}
use Rattle.std.proofs.Common.{subst, length-append}
use Rattle.c_messages.specs.Parts.{part}
use Rattle.registry_rows.specs.Rows.{Row}
use Rattle.c_messages.proofs.Lying.{lies}
use Rattle.c_registry.specs.declared.listed.Listed.TheVariants as listed
use Rattle.c_registry.specs.declared.row.RowParts.{RowParts}
use Rattle.c_registry.specs.Listed.{AreRows, texts_of, row_at, rows_at, Buffers, ArePut, counts_of, IsListed}
use Rattle.c_registry.specs.Private.Laid.{row_behind, bytes_behind, rows_behind, HaveTooFew}

abbrev row_from : Row → Option Row → Row
row_from x None = x
row_from x (Some y) = y

-- what is left of a list is its next row and the rest
drop_next : (rows : List Row) (i : ℕ) (r : Row) → slice_get rows i ≡ Some r → drop i rows ≡ r ∷ drop (suc i) rows
drop_next [] i r e = absurd (true≢false (sym (ap is_some e)))
drop_next (x ∷ xs) zero r e = ap (λ (o : Option Row). row_from x o ∷ xs) e
drop_next (x ∷ xs) (suc i) r e = drop_next xs i r e

drop_more : (rows : List Row) (i j : ℕ) (r : Row) → j ≡ suc i → slice_get rows i ≡ Some r → drop i rows ≡ r
    ∷ drop j rows
drop_more rows i j r next at = drop_next rows i r at ∙ ap (λ (k : ℕ). r ∷ drop k rows) (sym next)

-- three texts and what stands before and behind them
whole : (b n a o t : List ℕ) → (b ++ n ++ a ++ o) ++ t ≡ b ++ ((n ++ a ++ o) ++ t)
whole b n a o t = simp append_assoc

at_first : (b n a o t : List ℕ) → b ++ ((n ++ a ++ o) ++ t) ≡ b ++ (n ++ (a ++ (o ++ t)))
at_first b n a o t = simp append_assoc

at_second : (b n a o t : List ℕ) → b ++ ((n ++ a ++ o) ++ t) ≡ (b ++ n) ++ (a ++ (o ++ t))
at_second b n a o t = simp append_assoc

at_third : (b n a o t : List ℕ) → b ++ ((n ++ a ++ o) ++ t) ≡ (b ++ n ++ a) ++ (o ++ t)
at_third b n a o t = simp append_assoc

-- the texts of a row and of those after it
texts_more : (before : List ℕ) (r : Row) (rs : List Row) → bytes_behind before r ++ texts_of rs
    ≡ before ++ texts_of (r ∷ rs)
texts_more before r rs = whole before r.netid r.address r.owner (texts_of rs)

module _ (texts : List ℕ) where
  -- the rows lie where they were laid
  rows_lie : (before : List ℕ) (rs : List Row) → texts ≡ before ++ texts_of rs
      → AreRows texts rs (rows_behind before rs)
  rows_lie before [] e = tt
  rows_lie before (r ∷ rs) e =
      let rest = texts_of rs in
      let netid = e ∙ at_first before r.netid r.address r.owner rest in
      let address = e ∙ at_second before r.netid r.address r.owner rest in
      let owner = e ∙ at_third before r.netid r.address r.owner rest in (
        record {
          program = refl;
          version = refl;
          netid = lies texts before r.netid (r.address ++ (r.owner ++ rest)) _ netid refl;
          address = lies texts (before ++ r.netid) r.address (r.owner ++ rest) _ address refl;
          owner = lies texts (before ++ r.netid ++ r.address) r.owner rest _ owner refl;
        },
        rows_lie (bytes_behind before r) rs (e ∙ sym (texts_more before r rs)),
      )

-- C's row with its address and its owner at these places
abbrev placed_at : List ℕ → Row → (second third : ℕ) → RowParts
placed_at before r second third = record {
  program = r.prog;
  version = r.vers;
  netid = part (length before) r.netid;
  address = part second r.address;
  owner = part third r.owner;
}

-- they are laid at places that can be counted
row_placed : (before : List ℕ) (r : Row) → row_behind before r ≡ row_at (length before) r
row_placed before r =
    let second : length (before ++ r.netid) ≡ length before + length r.netid = length-append before r.netid in
    let third : length (before ++ r.netid ++ r.address) ≡ length before + length r.netid + length r.address =
    omega (arith, length-append (before ++ r.netid) r.address, second) in
    ap (λ (n : ℕ). placed_at before r n (length (before ++ r.netid ++ r.address))) second
    ∙ ap (λ (n : ℕ). placed_at before r (length before + length r.netid) n) third

rows_placed : (before : List ℕ) (rs : List Row) → rows_behind before rs ≡ rows_at (length before) rs
rows_placed before [] = refl
rows_placed before (r ∷ rs) =
    let more : length (before ++ r.netid ++ r.address ++ r.owner) ≡ length before
    + length (r.netid ++ r.address ++ r.owner) =
    omega (
      arith,
      length-append (before ++ r.netid ++ r.address) r.owner,
      length-append (before ++ r.netid) r.address,
      length-append before r.netid,
      length-append (r.netid ++ r.address) r.owner,
      length-append r.netid r.address,
    ) in
    ap (λ (p : RowParts). p ∷ rows_behind (bytes_behind before r) rs) (row_placed before r)
    ∙ ap (λ (ps : List RowParts). row_at (length before) r ∷ ps)
    (rows_placed (bytes_behind before r) rs ∙ ap (λ (n : ℕ). rows_at n rs) more)

-- all rows of a list
pub rows_laid : (rows : List Row) → AreRows (texts_of rows) rows (rows_at 0 rows)
rows_laid rows =
    subst (λ (ps : List RowParts). AreRows (texts_of rows) rows ps) (rows_placed [] rows)
    (rows_lie (texts_of rows) [] rows refl)

-- one more row: what was laid and what is left are the whole, before and after
pub laid_more : (rows : List Row) (i j : ℕ) (r : Row) (parts more all : List RowParts) (bytes longer : List ℕ)
    → j ≡ suc i → slice_get rows i ≡ Some r → more ≡ parts ++ row_behind bytes r ∷ [] → longer ≡ bytes_behind bytes r
    → parts ++ rows_behind bytes (drop i rows) ≡ all → more ++ rows_behind longer (drop j rows) ≡ all
laid_more rows i j r parts more all bytes longer next at m l e =
    rw (m, l) (append_assoc parts (row_behind bytes r ∷ []) (rows_behind (bytes_behind bytes r) (drop j rows))
    ∙ ap (λ (rs : List Row). parts ++ rows_behind bytes rs) (sym (drop_more rows i j r next at)) ∙ e)

pub texts_laid_more : (rows : List Row) (i j : ℕ) (r : Row) (bytes longer all : List ℕ) → j ≡ suc i
    → slice_get rows i ≡ Some r → longer ≡ bytes_behind bytes r → bytes ++ texts_of (drop i rows) ≡ all
    → longer ++ texts_of (drop j rows) ≡ all
texts_laid_more rows i j r bytes longer all next at l e =
    rw l (texts_more bytes r (drop j rows)
    ∙ ap (λ (rs : List Row). bytes ++ texts_of rs) (sym (drop_more rows i j r next at)) ∙ e)

-- nothing is left
drop_past : (rows : List Row) (i : ℕ) → length rows ≤ i → drop i rows ≡ []
drop_past [] zero h = refl
drop_past [] (suc i) h = refl
drop_past (x ∷ xs) zero h = absurd (omega (arith, h))
drop_past (x ∷ xs) (suc i) h = drop_past xs i (omega (arith, h))

pub laid_all : (rows : List Row) (i : ℕ) (parts : List RowParts) (bytes : List ℕ) → length rows ≤ i
    → parts ++ rows_behind bytes (drop i rows) ≡ rows_behind [] rows → parts ≡ rows_behind [] rows
laid_all rows i parts bytes past e =
    sym (append-nil parts) ∙ ap (λ (l : List Row). parts ++ rows_behind bytes l) (sym (drop_past rows i past)) ∙ e

pub texts_laid_all : (rows : List Row) (i : ℕ) (bytes : List ℕ) → length rows ≤ i
    → bytes ++ texts_of (drop i rows) ≡ texts_of rows → bytes ≡ texts_of rows
texts_laid_all rows i bytes past e =
    sym (append-nil bytes) ∙ ap (λ (l : List Row). bytes ++ texts_of l) (sym (drop_past rows i past)) ∙ e

rows_long : (before : List ℕ) (rs : List Row) → length (rows_behind before rs) ≡ length rs
rows_long before [] = refl
rows_long before (r ∷ rs) = ap suc (rows_long (bytes_behind before r) rs)

-- what was laid goes into the buffers, or does not
module _ (rows : List Row) (parts : List RowParts) (texts : List ℕ) (p : parts ≡ rows_behind [] rows)
    (t : texts ≡ texts_of rows) (old new : Buffers) (n m : ℕ) (en : n ≡ length parts) (em : m ≡ length texts) where
  counted : record { rows = n; bytes = m } ≡ counts_of rows
  counted =
      ap (λ (k : ℕ). record { rows = k; bytes = m }) (en ∙ ap length p ∙ rows_long [] rows)
      ∙ ap (λ (k : ℕ). record { rows = length rows; bytes = k }) (em ∙ ap length t)

  pub put_whole : ArePut parts texts old new → IsListed rows old new (listed.Whole (record { rows = n; bytes = m }))
  put_whole h = (
    rows_laid rows,
    subst (λ (x : List RowParts). ArePut x (texts_of rows) old new) (p ∙ rows_placed [] rows)
        (subst (λ (x : List ℕ). ArePut parts x old new) t h),
    counted,
  )

  pub put_none : HaveTooFew parts texts old new → IsListed rows old new (listed.NoRoom (record { rows = n; bytes = m }))
  put_none h = (rw (en, em) h.0, h.1, counted)
