-- Rows looked at one after another.
use Rattle.std.proofs.Common.{◌≡◌, ℕ, ◌+◌, ◌<◌, Bool, true, false, List, [], length, take, get_or}
use Rattle.std.proofs.Common.{Option, ap, sym, ◌∙◌, arith}
use Rattle.std.specs.List.{list_any, slice_get}
use Rattle.std.specs.Option.{option_map_or}
use Rattle.std.proofs.lemmas.List.{take_all}
use Rattle.std.proofs.lemmas.List.Folds.{list_any_at, list_any_more}
use Rattle.std.proofs.lemmas.Option.{slice_get-get_or}
use Rattle.registry_rows.specs.Rows.{Row, row_of}
use Rattle.registry_callers.proofs.Tests.{both_false}

some_row : Row
some_row = row_of 0 0 [] [] []

-- the test of the row at an index is that of the element
at_is : (test : Row → Bool) (rows : List Row) (i : ℕ) → i < length rows
    → option_map_or test (slice_get rows i) false ≡ test (get_or rows i some_row)
at_is test rows i within =
    ap (λ (o : Option Row). option_map_or test o false) (slice_get-get_or rows i some_row within)

-- a row that passes
pub found : (test : Row → Bool) (rows : List Row) (i : ℕ) → i < length rows
    → option_map_or test (slice_get rows i) false ≡ true → list_any test rows ≡ true
found test rows i within e = list_any_at test rows i some_row within (sym (at_is test rows i within) ∙ e)

-- one row more that does not
pub none_more : (test : Row → Bool) (rows : List Row) (i : ℕ) → i < length rows
    → list_any test (take i rows) ≡ false → option_map_or test (slice_get rows i) false ≡ false
    → list_any test (take (i + 1) rows) ≡ false
none_more test rows i within e f =
    list_any_more test rows i some_row within
    ∙ both_false (list_any test (take i rows)) (test (get_or rows i some_row)) e (sym (at_is test rows i within) ∙ f)

-- none of all of them
pub none_of_all : (test : Row → Bool) (rows : List Row) (n : ℕ) → n ≡ length rows
    → list_any test (take n rows) ≡ false → list_any test rows ≡ false
none_of_all test rows n is e =
    ap (list_any test) (sym (ap (λ (k : ℕ). take k rows) is ∙ take_all (length rows) rows (omega arith))) ∙ e
