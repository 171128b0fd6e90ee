-- Places in a column of programs, and what they say of the rows.
use Rattle.std.proofs.Common.{◌≡◌, ℕ, zero, suc, ◌+◌, ◌*◌, ◌<◌, ◌≤◌, Bool, true, false, ◌&&◌, not, cond, eqb, List, []}
use Rattle.std.proofs.Common.{◌∷◌, ◌++◌, length, take, drop, map, filter, nat_eq, Option, Some, None, slice_get, refl}
use Rattle.std.proofs.Common.{ap, sym, ◌∙◌, arith, is_some, true≢false}
use Rattle.std.specs.List.{prefix_len}
use Rattle.std.specs.Str.{bytes_eq}
use Rattle.std.specs.Simd.Lanes.{mask_l}
use Rattle.std.proofs.lemmas.Simd.{chunk-drop, length-chunk, leading_from_mask_l, trailing_mask_l}
use Rattle.std.proofs.lemmas.List.Folds.{prefix_len-append}
use Rattle.std.proofs.lemmas.Bool.{eq-eqb, ne_eqb}
use lib.Lanes.{chunk}
use lib.Count.{count_trailing_zeros}
use Rattle.registry_rows.specs.declared.key.Key.{Key}
use Rattle.registry_rows.specs.declared.row.Row.{Row as Kept}
use Rattle.registry_rows.specs.Rows.{Row}
use Rattle.registry_rows.specs.LookUp.{is_over}
use Rattle.registry_rows.specs.Columns.{programs_of, IsColumn, is_other}
use Rattle.registry_rows.specs.Views.{plain_row, plain_rows}
use Rattle.registry_rows.proofs.Twice.{nat_eq-sym}

module _ (prog : ℕ) where
  -- the mask of a chunk
  abbrev mask_at : ℕ → List ℕ → ℕ
  mask_at i xs = mask_l (map (λ p. nat_eq p prog) (chunk i 16 xs))

  abbrev before : List ℕ → ℕ
  before xs = prefix_len (is_other prog) xs

  no_mark : (xs : List ℕ) → before xs ≡ length xs → mask_l (map (λ p. nat_eq p prog) xs) ≡ 0
  no_mark [] e = refl
  no_mark (x ∷ xs) e = by (nat_eq x prog) e (no_mark xs)
    where
      by : (b : Bool) → cond (not b) (1 + before xs) 0 ≡ length (x ∷ xs)
          → (before xs ≡ length xs → mask_l (map (λ p. nat_eq p prog) xs) ≡ 0)
          → cond b 1 0 + 2 * mask_l (map (λ p. nat_eq p prog) xs) ≡ 0
      by true e rest = let no : ⊥ = omega (arith, e) in absurd no
      by false e rest = let z = rest (omega (arith, e)) in omega (arith, z)

  split : (xs : List ℕ) (i : ℕ)
      → before (drop i xs) ≡ cond (eqb (before (chunk i 16 xs)) (length (chunk i 16 xs)))
      (length (chunk i 16 xs) + before (drop (i + 16) xs)) (before (chunk i 16 xs))
  split xs i = ap before (chunk-drop i 16 xs) ∙ prefix_len-append (is_other prog) (chunk i 16 xs) (drop (i + 16) xs)

  -- Sixteen programs without a mark are other ones.
  pub goes_on : (xs : List ℕ) (i : ℕ) → i + 16 ≤ length xs → mask_at i xs ≡ 0
      → before (drop i xs) ≡ 16 + before (drop (i + 16) xs)
  goes_on xs i room none =
      let c = chunk i 16 xs in
      let all : before c ≡ length c = leading_from_mask_l (λ p. nat_eq p prog) c none in
      split xs i ∙ ap (λ b. cond b (length c + before (drop (i + 16) xs)) (before c)) (eq-eqb _ _ all)
      ∙ ap (λ k. k + before (drop (i + 16) xs)) (length-chunk i 16 xs room)

  -- The lowest mark is the first program that is no other.
  pub stops : (xs : List ℕ) (i : ℕ) → i + 16 ≤ length xs → 0 < mask_at i xs
      → before (drop i xs) ≡ count_trailing_zeros 64 (mask_at i xs)
  stops xs i room some =
      let c = chunk i 16 xs in
      let less : before c ≡ length c → ⊥ = λ e. let z = no_mark c e in omega (arith, z, some) in
      split xs i ∙ ap (λ b. cond b (length c + before (drop (i + 16) xs)) (before c)) (ne_eqb _ _ less)
      ∙ sym (trailing_mask_l (λ p. nat_eq p prog) 64 c (omega (arith, length-chunk i 16 xs room)) some)

  -- Where rows of the program alone go, those before the first of it stand where they stood.
  pub front_stays : (stays : Row → Bool) → ((r : Row) → nat_eq r.prog prog ≡ false → stays r ≡ true)
      → (rows : List Row) → let front = take (before (programs_of rows)) (programs_of rows) in
      IsColumn front (take (length front) (filter stays rows))
  front_stays stays h [] = refl
  front_stays stays h (r ∷ rs) = by (nat_eq r.prog prog) refl (front_stays stays h rs)
    where
      n : ℕ
      n = before (programs_of rs)

      by : (b : Bool) → nat_eq r.prog prog ≡ b
          → (let front = take n (programs_of rs) in IsColumn front (take (length front) (filter stays rs)))
          → let front = take (cond (not b) (1 + n) 0) (programs_of (r ∷ rs)) in
          IsColumn front (take (length front) (filter stays (r ∷ rs)))
      by true e rest = refl
      by false e rest =
          let one : 1 + n ≡ suc n = omega arith in
          rw (one, h r e) (ap (λ ps. r.prog ∷ ps) rest)

  module _ (netid : List ℕ) where
    abbrev over : Row → Bool
    over = is_over prog netid

    not_over : (r : Row) → nat_eq r.prog prog ≡ false → over r ≡ false
    not_over r e = ap (λ b. b && bytes_eq netid r.netid) (nat_eq-sym prog r.prog ∙ e)

    passed_front : (rows : List Row) → filter over (take (before (programs_of rows)) rows) ≡ []
    passed_front [] = refl
    passed_front (r ∷ rs) = by (nat_eq r.prog prog) refl (passed_front rs)
      where
        by : (b : Bool) → nat_eq r.prog prog ≡ b → filter over (take (before (programs_of rs)) rs) ≡ []
            → filter over (take (cond (not b) (1 + before (programs_of rs)) 0) (r ∷ rs)) ≡ []
        by true e rest = refl
        by false e rest =
            let n = before (programs_of rs) in
            let one : 1 + n ≡ suc n = omega arith in
            ap (λ k. filter over (take k (r ∷ rs))) one
            ∙ ap (λ b. cond b (r ∷ filter over (take n rs)) (filter over (take n rs))) (not_over r e) ∙ rest

    passed_from : (from : ℕ) (rows : List Row)
        → filter over (take (from + before (drop from (programs_of rows))) rows) ≡ filter over (take from rows)
    passed_from zero rows =
        let n = before (programs_of rows) in
        let all : 0 + n ≡ n = omega arith in
        ap (λ m. filter over (take m rows)) all ∙ passed_front rows
    passed_from (suc n) [] =
        let same : suc n + 0 ≡ suc n = omega arith in
        ap (λ m. filter over (take {A = Row} m [])) same
    passed_from (suc n) (r ∷ rs) =
        let k = before (drop n (programs_of rs)) in
        let one : suc n + k ≡ suc (n + k) = omega arith in
        ap (λ m. filter over (take m (r ∷ rs))) one
        ∙ ap (λ xs. cond (over r) (r ∷ xs) xs) (passed_from n rs)

    -- The rows up to the next place of the program are over the transport where those before are.
    pub passed : (column : List ℕ) (rows : List Row) (from at : ℕ) → IsColumn column rows
        → at ≡ from + before (drop from column) → filter over (take at rows) ≡ filter over (take from rows)
    passed column rows from at h e =
        ap (λ k. filter over (take k rows)) (e ∙ ap (λ c. from + before (drop from c)) h) ∙ passed_from from rows

-- One more row is taken.
pub take_next : {X : Type 0} (xs : List X) (i : ℕ) (x : X) → slice_get xs i ≡ Some x
    → take (i + 1) xs ≡ take i xs ++ x ∷ []
take_next [] i x e = absurd (true≢false (sym (ap is_some e)))
take_next {X} (y ∷ ys) zero x e = ap (λ o. from o ∷ []) e
  where
    from : Option X → X
    from None = y
    from (Some z) = z
take_next (y ∷ ys) (suc i) x e =
    let one : suc i + 1 ≡ suc (i + 1) = omega arith in
    ap (λ k. take k (y ∷ ys)) one ∙ ap (λ rs. y ∷ rs) (take_next ys i x e)

-- All are taken.
pub take_past : {X : Type 0} (xs : List X) (i : ℕ) → slice_get xs i ≡ None → take i xs ≡ xs
take_past [] zero e = refl
take_past [] (suc i) e = refl
take_past (x ∷ xs) zero e = absurd (true≢false (ap is_some e))
take_past (x ∷ xs) (suc i) e = ap (λ rs. x ∷ rs) (take_past xs i e)

-- A row that is there is a plain row there.
pub seen_at : (es : List (Key × Kept)) (i : ℕ) (e : Key × Kept) → slice_get es i ≡ Some e
    → slice_get (plain_rows es) i ≡ Some (plain_row e.1)
seen_at [] i e at = absurd (true≢false (sym (ap is_some at)))
seen_at (x ∷ xs) zero e at = ap (λ o. Some (from o)) at
  where
    from : Option (Key × Kept) → Row
    from None = plain_row x.1
    from (Some y) = plain_row y.1
seen_at (x ∷ xs) (suc i) e at = seen_at xs i e at

pub unseen_at : (es : List (Key × Kept)) (i : ℕ) → slice_get es i ≡ None → slice_get (plain_rows es) i ≡ None
unseen_at [] i at = refl
unseen_at (x ∷ xs) zero at = absurd (true≢false (ap is_some at))
unseen_at (x ∷ xs) (suc i) at = unseen_at xs i at

pub length-column : (rows : List Row) → length (programs_of rows) ≡ length rows
length-column [] = refl
length-column (r ∷ rs) = ap suc (length-column rs)
