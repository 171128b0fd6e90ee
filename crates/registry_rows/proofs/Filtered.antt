-- What a filter of the entries does to the plain rows.
use Rattle.std.proofs.Common.{◌≡◌, ℕ, suc, ◌≤◌, ◌<◌, Bool, true, false, not, ◌||◌, cond, List, [], ◌∷◌, length}
use Rattle.std.proofs.Common.{nat_lt, refl, ap, sym, ◌∙◌, arith, filter, true≢false}
use Rattle.std.specs.List.{list_any}
use Rattle.std.proofs.lemmas.Bool.Decides.{Decides-ltb, same_from_decides}
use Rattle.registry_rows.specs.declared.key.Key.{Key}
use Rattle.registry_rows.specs.declared.row.Row.{Row}
use Rattle.registry_rows.specs.Rows as plain
use Rattle.registry_rows.specs.Steps.{without}
use Rattle.registry_rows.specs.Views.{plain_row, plain_rows, AreKeyed}

pub length-plain_rows : (es : List (Key × Row)) → length (plain_rows es) ≡ length es
length-plain_rows [] = refl
length-plain_rows (e ∷ es) = ap suc (length-plain_rows es)

pub or_false : (a b : Bool) → (a || b) ≡ false → (a ≡ false) × (b ≡ false)
or_false true b e = absurd (true≢false e)
or_false false b e = (refl, e)

-- the rows that a test does not name
abbrev pub left : (plain.Row → Bool) → List plain.Row → List plain.Row
left test rows = filter (λ r. not (test r)) rows

module _ (test : plain.Row → Bool) where
  -- Where the test names none, all are left.
  pub all_left : (xs : List plain.Row) → list_any test xs ≡ false → left test xs ≡ xs
  all_left [] e = refl
  all_left (x ∷ xs) e =
      let w = or_false (test x) (list_any test xs) e in
      (λ j. cond (not (w.0 j)) (x ∷ left test xs) (left test xs)) ∙ ap (λ rs. x ∷ rs) (all_left xs w.1)

  -- Where none goes, the rows stay as they were.
  pub none_without : (xs rest : List plain.Row) (b : Bool) → (rest, b) ≡ without test xs → b ≡ false → rest ≡ xs
  none_without xs rest b e none = ap (λ p. p.0) e ∙ all_left xs (sym (ap (λ p. p.1) e) ∙ none)

  -- the entries whose rows the test names
  abbrev named : List (Key × Row) → List (Key × Row)
  named es = filter (λ e. test (plain_row e.1)) es

  pub plain_rows-filter : (es : List (Key × Row)) → plain_rows (named es) ≡ filter test (plain_rows es)
  plain_rows-filter [] = refl
  plain_rows-filter (e ∷ es) = by (test (plain_row e.1)) (plain_rows-filter es)
    where
      by : (t : Bool) → plain_rows (named es) ≡ filter test (plain_rows es)
          → plain_rows (cond t (e ∷ named es) (named es))
          ≡ cond t (plain_row e.1 ∷ filter test (plain_rows es)) (filter test (plain_rows es))
      by true p = ap (λ rs. plain_row e.1 ∷ rs) p
      by false p = p

  pub AreKeyed-filter : (es : List (Key × Row)) → AreKeyed es → AreKeyed (named es)
  AreKeyed-filter [] h = h
  AreKeyed-filter (e ∷ es) h = by (test (plain_row e.1)) (AreKeyed-filter es h.1)
    where
      by : (t : Bool) → AreKeyed (named es) → AreKeyed (cond t (e ∷ named es) (named es))
      by true p = (h.0, p)
      by false p = p

  length_left : (xs : List plain.Row) → length (left test xs) ≤ length xs
  length_left [] = omega arith
  length_left (x ∷ xs) = by (test x) (length_left xs)
    where
      by : (t : Bool) → length (left test xs) ≤ length xs
          → length (cond (not t) (x ∷ left test xs) (left test xs)) ≤ length (x ∷ xs)
      by true p = omega (arith, p)
      by false p = omega (arith, p)

  -- Fewer are left exactly where the test names one.
  pub fewer_left : (xs : List plain.Row) → nat_lt (length (left test xs)) (length xs) ≡ list_any test xs
  fewer_left [] = refl
  fewer_left (x ∷ xs) = by (test x) (length_left xs) (fewer_left xs)
    where
      less : (a b : ℕ) → a ≤ b → nat_lt a (suc b) ≡ true
      less a b h = (Decides-ltb a (suc b)).1 (omega (arith, h))

      same : (a b : ℕ) → nat_lt (suc a) (suc b) ≡ nat_lt a b
      same a b =
          let up : nat_lt (suc a) (suc b) ≡ true → a < b = λ e.
          let h : suc a < suc b = (Decides-ltb (suc a) (suc b)).0 e in omega (arith, h) in
          let down : a < b → nat_lt (suc a) (suc b) ≡ true = λ h.
          (Decides-ltb (suc a) (suc b)).1 (omega (arith, h)) in
          same_from_decides (nat_lt (suc a) (suc b)) (nat_lt a b) (up, down) (Decides-ltb a b)

      by : (t : Bool) → length (left test xs) ≤ length xs
          → nat_lt (length (left test xs)) (length xs) ≡ list_any test xs
          → nat_lt (length (cond (not t) (x ∷ left test xs) (left test xs))) (length (x ∷ xs)) ≡ (t || list_any test xs)
      by true le p = less _ _ le
      by false le p = same _ _ ∙ p
