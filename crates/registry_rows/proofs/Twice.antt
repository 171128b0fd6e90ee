-- No key comes twice.
use Rattle.std.proofs.Common.{◌≡◌, ℕ, Bool, true, false, ◌&&◌, ◌||◌, cond, List, [], ◌∷◌, ◌++◌, length, nat_eq, refl}
use Rattle.std.proofs.Common.{sym, ◌∙◌, filter, arith}
use Rattle.std.specs.List.{list_any, AllByRecursion}
use Rattle.std.proofs.lemmas.Bool.Decides.{Decides-eqb, Decides-like, same_from_decides}
use Rattle.std.proofs.lemmas.List.Folds.{list_any-append}
use Rattle.std.proofs.lemmas.Slice.Eq.{bytes_eq-Decides}
use Rattle.std.specs.Str.{bytes_eq}
use Rattle.registry_rows.specs.declared.key.Key.{Key}
use Rattle.registry_rows.specs.declared.row.Row.{Row}
use Rattle.registry_rows.specs.Rows as plain
use Rattle.registry_rows.specs.Rows.{is_at, NoneTwice, IsRow, IsRegistry}
use Rattle.registry_rows.specs.Views.{plain_rows, AreKeyed, AreEntries}
use Rattle.registry_rows.proofs.Filtered.{length-plain_rows, or_false}

pub nat_eq-sym : (a b : ℕ) → nat_eq a b ≡ nat_eq b a
nat_eq-sym a b = same_from_decides (nat_eq a b) (nat_eq b a) (Decides-eqb a b)
    (λ e. sym ((Decides-eqb b a).0 e), λ e. (Decides-eqb b a).1 (sym e))

bytes_eq-sym : (a b : List ℕ) → bytes_eq a b ≡ bytes_eq b a
bytes_eq-sym a b = same_from_decides _ _ (bytes_eq-Decides a b) (Decides-like _ sym sym (bytes_eq-Decides b a))

is_at-sym : (a b : plain.Row) → is_at a.prog a.vers a.netid b ≡ is_at b.prog b.vers b.netid a
is_at-sym a b = λ j. (nat_eq-sym a.prog b.prog j && nat_eq-sym a.vers b.vers j) && bytes_eq-sym a.netid b.netid j

pub NoneTwice-push : (rs : List plain.Row) (r : plain.Row) → NoneTwice rs
    → list_any (is_at r.prog r.vers r.netid) rs ≡ false → NoneTwice (rs ++ r ∷ [])
NoneTwice-push [] r h e = (refl, tt)
NoneTwice-push (x ∷ xs) r h e =
    let f = or_false (is_at r.prog r.vers r.netid x) (list_any (is_at r.prog r.vers r.netid) xs) e in (
      list_any-append (is_at x.prog x.vers x.netid) xs (r ∷ [])
          ∙ (λ j. h.0 j || ((is_at-sym x r ∙ f.0) j || false)),
      NoneTwice-push xs r h.1 f.1,
    )

any-filter : {X : Type 0} (test keep : X → Bool) (xs : List X) → list_any test xs ≡ false
    → list_any test (filter keep xs) ≡ false
any-filter test keep [] e = refl
any-filter test keep (x ∷ xs) e =
    let f = or_false (test x) (list_any test xs) e in
    by (keep x) f.0 (any-filter test keep xs f.1)
  where
    by : (k : Bool) → test x ≡ false → list_any test (filter keep xs) ≡ false
        → list_any test (cond k (x ∷ filter keep xs) (filter keep xs)) ≡ false
    by true t e = λ j. t j || e j
    by false t e = e

pub NoneTwice-filter : (keep : plain.Row → Bool) (rs : List plain.Row) → NoneTwice rs → NoneTwice (filter keep rs)
NoneTwice-filter keep [] h = h
NoneTwice-filter keep (x ∷ xs) h =
    by (keep x) (any-filter (is_at x.prog x.vers x.netid) keep xs h.0) (NoneTwice-filter keep xs h.1)
  where
    by : (k : Bool) → list_any (is_at x.prog x.vers x.netid) (filter keep xs) ≡ false → NoneTwice (filter keep xs)
        → NoneTwice (cond k (x ∷ filter keep xs) (filter keep xs))
    by true e h = (e, h)
    by false e h = h

all_rows : (es : List (Key × Row)) → AreKeyed es → AllByRecursion IsRow (plain_rows es)
all_rows [] h = tt
all_rows (e ∷ es) h = (h.0.row, all_rows es h.1)

-- What the entries keep to, in the plain rows.
pub registry : (es : List (Key × Row)) → AreEntries es → IsRegistry (plain_rows es)
registry es h = let n : length (plain_rows es) ≡ length es =
    length-plain_rows es in record {
      each = all_rows es h.keyed;
      none_twice = h.none_twice;
      few =
          omega (arith, n, h.few);
    }
