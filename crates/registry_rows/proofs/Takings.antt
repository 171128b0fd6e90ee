-- What the removal at a place does to the entries, the plain rows and the column.
use Rattle.std.proofs.Common.{◌≡◌, ℕ, zero, suc, ◌+◌, ◌<◌, ◌≤◌, Bool, true, false, ◌||◌, not, cond, nat_lt, List, []}
use Rattle.std.proofs.Common.{◌∷◌, ◌++◌, length, take, remove, position, Some, None, refl, ap, sym, ◌∙◌}
use Rattle.std.proofs.Common.{subst, arith, is_some, true≢false, slice_get}
use Rattle.std.specs.List.{list_any, position_or_len}
use Rattle.std.specs.Map.{keys_of, remove_entry}
use Rattle.std.proofs.lemmas.Option.{same_Some}
use Rattle.std.proofs.lemmas.Bool.Decides.{Decides-ltb}
use Rattle.std.proofs.lemmas.List.{map-append, length-append}
use Rattle.registry_rows.specs.declared.key.Key.{Key}
use Rattle.registry_rows.specs.declared.row.Row.{Row as Kept}
use Rattle.registry_rows.specs.Rows.{Row, is_at, NoneTwice}
use Rattle.registry_rows.specs.Columns.{programs_of, IsColumn}
use Rattle.registry_rows.specs.Views.{plain_row, plain_rows, AreKeyed, AreEntries}
use Rattle.registry_rows.proofs.Columns.{take_next}
use Rattle.registry_rows.proofs.Filtered.{or_false}

pub plain_removed : (es : List (Key × Kept)) (i : ℕ) → plain_rows (remove es i) ≡ remove (plain_rows es) i
plain_removed [] zero = refl
plain_removed [] (suc i) = refl
plain_removed (e ∷ es) zero = refl
plain_removed (e ∷ es) (suc i) = ap (λ rs. plain_row e.1 ∷ rs) (plain_removed es i)

pub programs_removed : (rows : List Row) (i : ℕ) → programs_of (remove rows i) ≡ remove (programs_of rows) i
programs_removed [] zero = refl
programs_removed [] (suc i) = refl
programs_removed (r ∷ rs) zero = refl
programs_removed (r ∷ rs) (suc i) = ap (λ ps. r.prog ∷ ps) (programs_removed rs i)

pub programs_pushed : (rows : List Row) (r : Row) → programs_of (rows ++ r ∷ []) ≡ programs_of rows ++ r.prog ∷ []
programs_pushed rows r = map-append (λ x. x.prog) rows (r ∷ [])

any_removed : (test : Row → Bool) (rows : List Row) (i : ℕ) → list_any test rows ≡ false
    → list_any test (remove rows i) ≡ false
any_removed test [] zero e = refl
any_removed test [] (suc i) e = refl
any_removed test (r ∷ rs) zero e = (or_false (test r) (list_any test rs) e).1
any_removed test (r ∷ rs) (suc i) e =
    let w = or_false (test r) (list_any test rs) e in
    λ j. w.0 j || any_removed test rs i w.1 j

none_twice_removed : (rows : List Row) (i : ℕ) → NoneTwice rows → NoneTwice (remove rows i)
none_twice_removed [] zero h = h
none_twice_removed [] (suc i) h = h
none_twice_removed (r ∷ rs) zero h = h.1
none_twice_removed (r ∷ rs) (suc i) h =
    (any_removed (is_at r.prog r.vers r.netid) rs i h.0, none_twice_removed rs i h.1)

keyed_removed : (es : List (Key × Kept)) (i : ℕ) → AreKeyed es → AreKeyed (remove es i)
keyed_removed [] zero h = h
keyed_removed [] (suc i) h = h
keyed_removed (e ∷ es) zero h = h.1
keyed_removed (e ∷ es) (suc i) h = (h.0, keyed_removed es i h.1)

fewer_removed : (es : List (Key × Kept)) (i : ℕ) → length (remove es i) ≤ length es
fewer_removed [] zero = omega arith
fewer_removed [] (suc i) = omega arith
fewer_removed (e ∷ es) zero = omega arith
fewer_removed (e ∷ es) (suc i) = let n : length (remove es i) ≤ length es = fewer_removed es i in omega (arith, n)

pub entries_removed : (es : List (Key × Kept)) (i : ℕ) → AreEntries es → AreEntries (remove es i)
entries_removed es i h =
    let n : length (remove es i) ≤ length es = fewer_removed es i in
    record {
      keyed = keyed_removed es i h.keyed;
      none_twice = subst NoneTwice (sym (plain_removed es i)) (none_twice_removed (plain_rows es) i h.none_twice);
      few = omega (arith, n, h.few);
    }

-- The first key that passes a test is removed at its place.
removed_first : (t : Key → Bool) (es : List (Key × Kept)) → position_or_len t (keys_of es) < length es
    → remove_entry t es ≡ remove es (position_or_len t (keys_of es))
removed_first t [] h = absurd (omega (arith, h))
removed_first t (e ∷ es) h = by (t e.0) h (removed_first t es)
  where
    n : ℕ
    n = position_or_len t (keys_of es)

    by : (b : Bool) → cond (not b) (1 + n) 0 < length (e ∷ es)
        → (n < length es → remove_entry t es ≡ remove es n)
        → cond b es (e ∷ remove_entry t es) ≡ remove (e ∷ es) (cond (not b) (1 + n) 0)
    by true less rest = refl
    by false less rest =
        let one : 1 + n ≡ suc n = omega arith in
        ap (λ xs. e ∷ xs) (rest (omega (arith, less))) ∙ sym (ap (remove (e ∷ es)) one)

place_is : (t : Key → Bool) (ks : List Key) (i : ℕ) → position t ks ≡ Some i
    → (position_or_len t ks < length ks) × (position_or_len t ks ≡ i)
place_is t ks i e = by (nat_lt (position_or_len t ks) (length ks)) refl e
  where
    by : (b : Bool) → nat_lt (position_or_len t ks) (length ks) ≡ b
        → cond b (Some (position_or_len t ks)) None ≡ Some i
        → (position_or_len t ks < length ks) × (position_or_len t ks ≡ i)
    by true less same = ((Decides-ltb _ _).0 less, same_Some _ _ same)
    by false less same = absurd (true≢false (sym (ap is_some same)))

length-keys : (es : List (Key × Kept)) → length (keys_of es) ≡ length es
length-keys [] = refl
length-keys (e ∷ es) = ap suc (length-keys es)

pub removed_at : (t : Key → Bool) (es : List (Key × Kept)) (i : ℕ) → position t (keys_of es) ≡ Some i
    → (remove_entry t es ≡ remove es i) × (i < length es)
removed_at t es i e =
    let p = place_is t (keys_of es) i e in
    let n = length-keys es in
    let less : position_or_len t (keys_of es) < length es = omega (arith, p.0, n) in (
      removed_first t es less ∙ ap (remove es) p.1,
      omega (arith, less, p.1),
    )

-- One more row has its program in the column.
pub filled : (rows : List Row) (items new : List ℕ) (k : ℕ) (r : Row) → k ≡ length items → slice_get rows k ≡ Some r
    → IsColumn items (take (length items) rows) → new ≡ items ++ r.prog ∷ [] → IsColumn new (take (length new) rows)
filled rows items new k r n there column push =
    let next : take (k + 1) rows ≡ take k rows ++ r ∷ [] = take_next rows k r there in
    let long : length new ≡ length items + 1 = ap length push ∙ length-append items (r.prog ∷ []) in
    let same : k + 1 ≡ length new = omega (arith, n, long) in
    push ∙ ap (λ ps. ps ++ r.prog ∷ []) (column ∙ ap (λ m. programs_of (take m rows)) (sym n))
    ∙ sym (programs_pushed (take k rows) r) ∙ ap programs_of (sym next) ∙ ap (λ m. programs_of (take m rows)) same
