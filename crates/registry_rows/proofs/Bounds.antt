-- Each row of a registry keeps to its bounds.
use Rattle.std.proofs.Common.{◌≡◌, ℕ, zero, suc, Bool, true, false, cond, List, [], ◌∷◌, Option, Some, None, IfSome}
use Rattle.std.proofs.Common.{ap, sym, subst, find, slice_get, option_map, is_some, true≢false}
use Rattle.std.specs.List.{AllByRecursion}
use Rattle.std.proofs.lemmas.Option.{same_Some}
use Rattle.registry_rows.specs.Rows.{Row, IsRow}

-- The row that a test finds is one of them.
pub found_is_row : (test : Row → Bool) (rows : List Row) → AllByRecursion IsRow rows → (r : Row)
    → find test rows ≡ Some r → IsRow r
found_is_row test [] h r e = absurd (true≢false (sym (ap is_some e)))
found_is_row test (x ∷ xs) h r e = by (test x) e (found_is_row test xs h.1 r)
  where
    by : (t : Bool) → cond t (Some x) (find test xs) ≡ Some r → (find test xs ≡ Some r → IsRow r) → IsRow r
    by true f rest = subst IsRow (same_Some x r f) h.0
    by false f rest = rest f

-- The row at an index is one of them.
pub row_is_row : (rows : List Row) → AllByRecursion IsRow rows → (index : ℕ) (r : Row) → slice_get rows index ≡ Some r
    → IsRow r
row_is_row [] h index r e = absurd (true≢false (sym (ap is_some e)))
row_is_row (x ∷ xs) h zero r e = subst IsRow (same_Some x r e) h.0
row_is_row (x ∷ xs) h (suc index) r e = row_is_row xs h.1 index r e

-- What holds of a row that is there holds of what it is seen as.
pub seen : {X : Type 0} (view : X → Row) (x : Option X) (y : Option Row) → option_map view x ≡ y
    → ((r : Row) → y ≡ Some r → IsRow r) → IfSome x (λ v. IsRow (view v))
seen view None y e h = tt
seen view (Some v) y e h = h (view v) (sym e)
