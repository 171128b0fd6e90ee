-- What the removal of one key does to the plain rows.
use Rattle.std.proofs.Common.{◌≡◌, ℕ, ◌≤◌, ◌<◌, Bool, true, false, not, ◌&&◌, ◌||◌, cond, List, [], ◌∷◌, length}
use Rattle.std.proofs.Common.{nat_eq, nat_le, refl, ap, sym, ◌∙◌, subst, arith, find, Option, Some, None}
use Rattle.std.proofs.Common.{is_some, true≢false}
use Rattle.std.specs.List.{list_any}
use Rattle.std.specs.Map.{remove_entry}
use Rattle.std.specs.Option.{option_map_or}
use Rattle.std.specs.Str.{bytes_eq}
use Rattle.std.proofs.lemmas.Slice.Eq.{bytes_eq-Decides}
use Rattle.std.proofs.lemmas.Bool.Decides.{Decides-eqb}
use Rattle.std.proofs.lemmas.Option.{same_Some}
use Rattle.registry_rows.specs.declared.key.Key.{Key}
use Rattle.registry_rows.specs.declared.row.Row.{Row}
use Rattle.registry_rows.specs.Keys.{key_of}
use Rattle.registry_rows.specs.Rows as plain
use Rattle.registry_rows.specs.Rows.{is_of, is_at, NoneTwice}
use Rattle.registry_rows.specs.Steps.{is_unset, is_empty, may_remove, unset}
use Rattle.registry_rows.specs.Views.{plain_row, plain_rows, AreKeyed, AreEntries}
use Rattle.registry_rows.proofs.Added.{both}
use Rattle.registry_rows.proofs.Filtered.{left, all_left, or_false}
use Rattle.registry_rows.proofs.Twice.{NoneTwice-filter}
use Rattle.registry_rows.proofs.Keyed.{key_eq, key_test, none_longer}

-- a test that at most one of the rows passes
abbrev pub Alone : (plain.Row → Bool) → List plain.Row → Type 0
Alone test [] = Unit {0}
Alone test (x ∷ xs) = (test x ≡ true → list_any test xs ≡ false) × Alone test xs

-- No two rows have the key.
pub alone_at : (prog vers : ℕ) (netid : List ℕ) (rows : List plain.Row) → NoneTwice rows
    → Alone (is_at prog vers netid) rows
alone_at prog vers netid [] h = tt
alone_at prog vers netid (x ∷ xs) h = (λ at. one at, alone_at prog vers netid xs h.1)
  where
    one : is_at prog vers netid x ≡ true → list_any (is_at prog vers netid) xs ≡ false
    one at =
        let w = both _ _ at in
        let v = both _ _ w.0 in
        let p : prog ≡ x.prog = (Decides-eqb prog x.prog).0 v.0 in
        let q : vers ≡ x.vers = (Decides-eqb vers x.vers).0 v.1 in
        let n : netid ≡ x.netid = (bytes_eq-Decides netid x.netid).0 w.1 in
        (λ j. list_any (is_at (p j) (q j) (n j)) xs) ∙ h.0

-- a test that names none of the rows, and leaves all
abbrev pub Spares : (plain.Row → Bool) → List plain.Row → Type 0
Spares gone xs = (left gone xs ≡ xs) × (list_any gone xs ≡ false)

module _ (at may gone : plain.Row → Bool) (says : (x : plain.Row) → gone x ≡ (at x && may x)) where
  not_gone : (x : plain.Row) → at x ≡ false → gone x ≡ false
  not_gone x e = says x ∙ ap (λ b. b && may x) e

  -- a row that is found goes exactly where it may
  as_may : (x r : plain.Row) (b : Bool) → at x ≡ true → Some x ≡ Some r → may r ≡ b → gone x ≡ b
  as_may x r b a f m = says x ∙ (λ j. a j && may x) ∙ ap may (same_Some x r f) ∙ m

  spared : (x : plain.Row) (xs : List plain.Row) → gone x ≡ false → Spares gone xs → Spares gone (x ∷ xs)
  spared x xs g r =
      ((λ j. cond (not (g j)) (x ∷ left gone xs) (left gone xs)) ∙ ap (λ rs. x ∷ rs) r.0, λ j. g j || r.1 j)

  none_gone : (xs : List plain.Row) → list_any at xs ≡ false → Spares gone xs
  none_gone [] e = (refl, refl)
  none_gone (x ∷ xs) e = let w = or_false _ _ e in spared x xs (not_gone x w.0) (none_gone xs w.1)

  pub refused : (xs : List plain.Row) → Alone at xs → find at xs ≡ None → Spares gone xs
  refused [] h e = (refl, refl)
  refused (x ∷ xs) h e = by (at x) refl e (refused xs h.1)
    where
      by : (b : Bool) → at x ≡ b → cond b (Some x) (find at xs) ≡ None → (find at xs ≡ None → Spares gone xs)
          → Spares gone (x ∷ xs)
      by true a f rest = absurd (true≢false (ap is_some f))
      by false a f rest = spared x xs (not_gone x a) (rest f)

  pub forbidden : (xs : List plain.Row) (r : plain.Row) → Alone at xs → find at xs ≡ Some r → may r ≡ false
      → Spares gone xs
  forbidden [] r h e m = (refl, refl)
  forbidden (x ∷ xs) r h e m = by (at x) refl e (λ f. forbidden xs r h.1 f m)
    where
      by : (b : Bool) → at x ≡ b → cond b (Some x) (find at xs) ≡ Some r → (find at xs ≡ Some r → Spares gone xs)
          → Spares gone (x ∷ xs)
      by true a f rest = spared x xs (as_may x r false a f m) (none_gone xs (h.0 a))
      by false a f rest = spared x xs (not_gone x a) (rest f)

  -- What goes is the one row.
  abbrev pub Takes : List plain.Row → Type 0
  Takes xs = (left gone xs ≡ left at xs) × (list_any gone xs ≡ true)

  pub allowed : (xs : List plain.Row) (r : plain.Row) → Alone at xs → find at xs ≡ Some r → may r ≡ true → Takes xs
  allowed [] r h e m = absurd (true≢false (sym (ap is_some e)))
  allowed (x ∷ xs) r h e m = by (at x) refl e (λ f. allowed xs r h.1 f m)
    where
      by : (b : Bool) → at x ≡ b → cond b (Some x) (find at xs) ≡ Some r → (find at xs ≡ Some r → Takes xs)
          → Takes (x ∷ xs)
      by true a f rest =
          let g : gone x ≡ true = as_may x r true a f m in
          let s = (none_gone xs (h.0 a)).0 ∙ sym (all_left at xs (h.0 a)) in (
            (λ j. cond (not (g j)) (x ∷ left gone xs) (left gone xs)) ∙ s
                ∙ sym (λ j. cond (not (a j)) (x ∷ left at xs) (left at xs)),
            λ j. g j || list_any gone xs,
          )
      by false a f rest =
          let g = not_gone x a in
          let r = rest f in (
            (λ j. cond (not (g j)) (x ∷ left gone xs) (left gone xs)) ∙ ap (λ rs. x ∷ rs) r.0
                ∙ sym (λ j. cond (not (a j)) (x ∷ left at xs) (left at xs)),
            (λ j. g j || r.1 j),
          )

-- With a netid, an `unset` names the row of the key, where the owner may remove it.
unset_says : (prog vers : ℕ) (netid owner : List ℕ) → is_empty netid ≡ false → (x : plain.Row)
    → is_unset prog vers netid owner x ≡ (is_at prog vers netid x && may_remove owner x)
unset_says prog vers netid owner some x =
    ap (λ b. (is_of prog vers x && (b || bytes_eq netid x.netid)) && may_remove owner x) some

abbrev may_one : List ℕ → Option plain.Row → Bool
may_one owner o = option_map_or (may_remove owner) o false

module _ (prog vers : ℕ) (netid owner : List ℕ) (some : is_empty netid ≡ false) (rows : List plain.Row)
    (h : NoneTwice rows) where
  abbrev at : plain.Row → Bool
  at = is_at prog vers netid

  abbrev gone : plain.Row → Bool
  gone = is_unset prog vers netid owner

  one_at : Alone at rows
  one_at = alone_at prog vers netid rows h

  says : (x : plain.Row) → gone x ≡ (at x && may_remove owner x)
  says = unset_says prog vers netid owner some

  nothing : Spares gone rows → (rows, false) ≡ unset rows prog vers netid owner
  nothing w = λ j. (sym w.0 j, sym w.1 j)

  pub unset_refused : may_one owner (find at rows) ≡ false → (rows, false) ≡ unset rows prog vers netid owner
  unset_refused m = by (find at rows) refl m
    where
      by : (o : Option plain.Row) → find at rows ≡ o → may_one owner o ≡ false
          → (rows, false) ≡ unset rows prog vers netid owner
      by None e m = nothing (refused at (may_remove owner) gone says rows one_at e)
      by (Some r) e m = nothing (forbidden at (may_remove owner) gone says rows r one_at e m)

  pub unset_done : may_one owner (find at rows) ≡ true → (left at rows, true) ≡ unset rows prog vers netid owner
  unset_done m = by (find at rows) refl m
    where
      by : (o : Option plain.Row) → find at rows ≡ o → may_one owner o ≡ true
          → (left at rows, true) ≡ unset rows prog vers netid owner
      by None e m = absurd (true≢false (sym m))
      by (Some r) e m =
          let w = allowed at (may_remove owner) gone says rows r one_at e m in
          λ j. (sym w.0 j, sym w.1 j)

-- A netid that names a row has at most 64 bytes.
pub found_short : (prog vers : ℕ) (netid owner : List ℕ) (es : List (Key × Row)) → AreKeyed es
    → may_one owner (find (is_at prog vers netid) (plain_rows es)) ≡ true → length netid ≤ 64
found_short prog vers netid owner es h e = by (nat_le (length netid) 64) refl
  where
    by : (b : Bool) → nat_le (length netid) 64 ≡ b → length netid ≤ 64
    by true q = grind (arith, q)
    by false q =
        let long : 64 < length netid = grind (arith, q) in
        absurd (true≢false (sym (sym (ap (may_one owner) (none_longer prog vers netid es h long)) ∙ e)))

AreKeyed-removed : (test : Key → Bool) (es : List (Key × Row)) → AreKeyed es → AreKeyed (remove_entry test es)
AreKeyed-removed test [] h = h
AreKeyed-removed test (e ∷ es) h = by (test e.0) (AreKeyed-removed test es h.1)
  where
    by : (b : Bool) → AreKeyed (remove_entry test es) → AreKeyed (cond b es (e ∷ remove_entry test es))
    by true rest = h.1
    by false rest = (h.0, rest)

length-removed : (test : Key → Bool) (es : List (Key × Row)) → length (remove_entry test es) ≤ length es
length-removed test [] = omega arith
length-removed test (e ∷ es) = by (test e.0) (length-removed test es)
  where
    by : (b : Bool) → length (remove_entry test es) ≤ length es
        → length (cond b es (e ∷ remove_entry test es)) ≤ length (e ∷ es)
    by true h = omega arith
    by false h = omega (arith, h)

module _ (prog vers : ℕ) (netid : List ℕ) where
  -- the entries but that of the key
  abbrev removed : List (Key × Row) → List (Key × Row)
  removed es = remove_entry (key_eq (key_of prog vers netid)) es

  removed_rows : (es : List (Key × Row)) → AreKeyed es → Alone (is_at prog vers netid) (plain_rows es)
      → plain_rows (removed es) ≡ left (is_at prog vers netid) (plain_rows es)
  removed_rows [] h a = refl
  removed_rows (e ∷ es) h a =
      (λ j. plain_rows (cond (test j) es (e ∷ removed es)))
      ∙ by (is_at prog vers netid (plain_row e.1)) refl (removed_rows es h.1 a.1)
    where
      test : key_eq (key_of prog vers netid) e.0 ≡ is_at prog vers netid (plain_row e.1)
      test = ap (key_eq (key_of prog vers netid)) h.0.key ∙ key_test prog vers netid e.1

      by : (b : Bool) → is_at prog vers netid (plain_row e.1) ≡ b
          → plain_rows (removed es) ≡ left (is_at prog vers netid) (plain_rows es)
          → plain_rows (cond b es (e ∷ removed es))
          ≡ cond (not b) (plain_row e.1 ∷ left (is_at prog vers netid) (plain_rows es))
          (left (is_at prog vers netid) (plain_rows es))
      by true at rest = sym (all_left (is_at prog vers netid) (plain_rows es) (a.0 at))
      by false at rest = ap (λ rs. plain_row e.1 ∷ rs) rest

  -- The removal of one key leaves the other rows, in their order.
  pub taken_out : (es : List (Key × Row)) → AreEntries es
      → plain_rows (removed es) ≡ left (is_at prog vers netid) (plain_rows es)
  taken_out es h = removed_rows es h.keyed (alone_at prog vers netid (plain_rows es) h.none_twice)

  pub entries_left : (es : List (Key × Row)) → AreEntries es → AreEntries (removed es)
  entries_left es h =
      let n : length (removed es) ≤ length es = length-removed (key_eq (key_of prog vers netid)) es in
      let other : plain.Row → Bool = λ r. not (is_at prog vers netid r) in
      record {
        keyed = AreKeyed-removed (key_eq (key_of prog vers netid)) es h.keyed;
        none_twice = subst NoneTwice (sym (taken_out es h)) (NoneTwice-filter other (plain_rows es) h.none_twice);
        few = omega (arith, n, h.few);
      }

pub not_empty : (xs : List ℕ) → 0 < length xs → is_empty xs ≡ false
not_empty xs h = by (nat_eq (length xs) 0) refl
  where
    by : (b : Bool) → nat_eq (length xs) 0 ≡ b → b ≡ false
    by false e = refl
    by true e = let z : length xs ≡ 0 = (Decides-eqb (length xs) 0).0 e in absurd (omega (arith, h, z))
