-- The row of greatest version, as rows are looked at one after another.
use Rattle.std.proofs.Common.{◌≡◌, ℕ, ◌≤◌, ◌<◌, Bool, true, false, ◌&&◌, ◌||◌, cond, List, [], ◌∷◌, ◌++◌, nat_eq}
use Rattle.std.proofs.Common.{nat_le, nat_lt, refl, ap, sym, ◌∙◌, arith, find, filter, Option, Some, None, is_some}
use Rattle.std.proofs.Common.{true≢false, append-nil, append_assoc}
use Rattle.std.specs.List.{list_all, list_any, AllByRecursion}
use Rattle.std.specs.Option.{option_or, option_map_or}
use Rattle.std.proofs.lemmas.List.Folds.{find-append, list_all-append}
use Rattle.std.proofs.lemmas.List.Elements.{filter-append}
use Rattle.std.proofs.lemmas.Bool.{and_parts as both, le-leb, leb-true, lt-leb}
use Rattle.std.proofs.lemmas.Bool.Decides.{Decides-ltb}
use Rattle.std.proofs.lemmas.Option.{same_Some}
use Rattle.std.proofs.Math.Bool.{or-true}
use Rattle.std.specs.Str.{bytes_eq}
use Rattle.registry_rows.specs.Rows.{Row, IsRow, is_at}
use Rattle.registry_rows.specs.Steps.{row_at}
use Rattle.registry_rows.specs.LookUp.{is_over, none_greater, greatest, look_up}
use Rattle.registry_rows.proofs.Keyed.{find_is_any}

-- the row so far is that of greatest version of these
abbrev pub IsGreatest : List Row → Option Row → Type 0
IsGreatest rows None = rows ≡ []
IsGreatest rows (Some r) = greatest rows ≡ Some r

-- What is found passes the test.
found_passes : (test : Row → Bool) (rows : List Row) (r : Row) → find test rows ≡ Some r → test r ≡ true
found_passes test [] r e = absurd (true≢false (sym (ap is_some e)))
found_passes test (x ∷ xs) r e = by (test x) refl e (found_passes test xs r)
  where
    by : (b : Bool) → test x ≡ b → cond b (Some x) (find test xs) ≡ Some r → (find test xs ≡ Some r → test r ≡ true)
        → test r ≡ true
    by true t f rest = sym (ap test (same_Some x r f)) ∙ t
    by false t f rest = rest f

-- What is found is found by a test that only it and others of them pass.
found_still : (test only : Row → Bool) (rows : List Row) (r : Row)
    → ((x : Row) → test x ≡ false → only x ≡ false) → find test rows ≡ Some r → only r ≡ true → find only rows ≡ Some r
found_still test only [] r less e f = absurd (true≢false (sym (ap is_some e)))
found_still test only (x ∷ xs) r less e f = by (test x) refl e (λ g. found_still test only xs r less g f)
  where
    by : (b : Bool) → test x ≡ b → cond b (Some x) (find test xs) ≡ Some r
        → (find test xs ≡ Some r → find only xs ≡ Some r) → cond (only x) (Some x) (find only xs) ≡ Some r
    by true t g rest = ap (λ b. cond b (Some x) (find only xs)) (ap only (same_Some x r g) ∙ f) ∙ g
    by false t g rest = ap (λ b. cond b (Some x) (find only xs)) (less x t) ∙ rest g

-- none of the rows is greater than a row that is greater than one of which that holds
none_greater-above : (rows : List Row) (b r : Row) → b.vers < r.vers → none_greater rows b ≡ true
    → none_greater rows r ≡ true
none_greater-above rows b r less h = all rows h
  where
    all : (xs : List Row) → list_all (λ s. nat_le s.vers b.vers) xs ≡ true
        → list_all (λ s. nat_le s.vers r.vers) xs ≡ true
    all [] e = refl
    all (x ∷ xs) e =
        let w = both _ _ e in
        let le : x.vers ≤ b.vers = leb-true x.vers b.vers w.0 in
        λ j. le-leb x.vers r.vers (omega (arith, le, less)) j && all xs w.1 j

-- a test that no row up to a version passes finds none among those
none_found : (only : Row → Bool) (b : Row) → ((x : Row) → x.vers ≤ b.vers → only x ≡ false) → (rows : List Row)
    → list_all (λ s. nat_le s.vers b.vers) rows ≡ true → find only rows ≡ None
none_found only b none [] e = refl
none_found only b none (x ∷ xs) e =
    let w = both _ _ e in
    ap (λ t. cond t (Some x) (find only xs)) (none x (leb-true x.vers b.vers w.0)) ∙ none_found only b none xs w.1

module _ (rows : List Row) (r : Row) where
  -- one more row is looked at
  more : (x : Row) → none_greater (rows ++ r ∷ []) x ≡ (none_greater rows x && (nat_le r.vers x.vers && true))
  more x = list_all-append (λ s. nat_le s.vers x.vers) rows (r ∷ [])

  not_less : (x : Row) → nat_le r.vers x.vers ≡ false → none_greater (rows ++ r ∷ []) x ≡ false
  not_less x e = more x ∙ ap (λ t. none_greater rows x && (t && true)) e ∙ off (none_greater rows x)
    where
      off : (t : Bool) → (t && false) ≡ false
      off true = refl
      off false = refl

  -- The first row is the greatest.
  pub first : rows ≡ [] → IsGreatest (rows ++ r ∷ []) (Some r)
  first e = ap (λ xs. greatest (xs ++ r ∷ [])) e
      ∙ ap (λ t. cond (t && true) (Some r) None) (le-leb r.vers r.vers (omega arith))

  -- A greater one is the greatest.
  pub greater : (b : Row) → IsGreatest rows (Some b) → b.vers < r.vers → IsGreatest (rows ++ r ∷ []) (Some r)
  greater b e less =
      let test = none_greater (rows ++ r ∷ []) in
      let below : (x : Row) → x.vers ≤ b.vers → test x ≡ false = λ x le.
      not_less x (lt-leb r.vers x.vers (omega (arith, le, less))) in
      let passes : none_greater rows b ≡ true = found_passes (none_greater rows) rows b e in
      let none : find test rows ≡ None = none_found test b below rows passes in
      let last : test r ≡ true = more r
      ∙ (λ j. none_greater-above rows b r less passes j && (le-leb r.vers r.vers (omega arith) j && true)) in
      find-append test rows (r ∷ []) ∙ (λ j. option_or (none j) (cond (last j) (Some r) None))

  -- One that is not greater is not.
  pub not_greater : (b : Row) → IsGreatest rows (Some b) → r.vers ≤ b.vers → IsGreatest (rows ++ r ∷ []) (Some b)
  not_greater b e le =
      let test = none_greater (rows ++ r ∷ []) in
      let less : (x : Row) → none_greater rows x ≡ false → test x ≡ false = λ x f.
      more x ∙ ap (λ t. t && (nat_le r.vers x.vers && true)) f in
      let passes : test b ≡ true = more b
      ∙ (λ j. found_passes (none_greater rows) rows b e j && (le-leb r.vers b.vers le j && true)) in
      let found : find test rows ≡ Some b = found_still (none_greater rows) test rows b less e passes in
      find-append test rows (r ∷ []) ∙ ap (λ o. option_or o (find test (r ∷ []))) found

-- With all rows looked at it is what is looked for.
pub all_looked_at : (rows : List Row) (o : Option Row) → IsGreatest rows o → o ≡ greatest rows
all_looked_at rows None e = sym (ap greatest e)
all_looked_at rows (Some r) e = sym e

-- The rows that a test keeps keep to what all keep to.
pub retained_rows : (test : Row → Bool) (rows : List Row) → AllByRecursion IsRow rows
    → AllByRecursion IsRow (filter test rows)
retained_rows test [] h = tt
retained_rows test (x ∷ xs) h = by (test x) (retained_rows test xs h.1)
  where
    by : (b : Bool) → AllByRecursion IsRow (filter test xs)
        → AllByRecursion IsRow (cond b (x ∷ filter test xs) (filter test xs))
    by true rest = (h.0, rest)
    by false rest = rest

module _ (test : Row → Bool) (rows : List Row) (r : Row) where
  -- one more row, kept or not
  filter_more : (b : Bool) → test r ≡ b → filter test (rows ++ r ∷ []) ≡ filter test rows ++ cond b (r ∷ []) []
  filter_more b e = filter-append test rows (r ∷ []) ∙ ap (λ t. filter test rows ++ cond t (r ∷ []) []) e

  -- whether the row is greater than another
  abbrev is_above : Option Row → Bool
  is_above o = option_map_or (λ b. nat_lt b.vers r.vers) o true

  -- It is kept, and greater than the greatest so far.
  pub takes : (o : Option Row) → IsGreatest (filter test rows) o → test r ≡ true → is_above o ≡ true
      → IsGreatest (filter test (rows ++ r ∷ [])) (Some r)
  takes None h e above = ap greatest (filter_more true e) ∙ first (filter test rows) r h
  takes (Some b) h e above =
      ap greatest (filter_more true e) ∙ greater (filter test rows) r b h ((Decides-ltb b.vers r.vers).0 above)

  -- It is kept, and not greater.
  pub leaves : (o : Option Row) → IsGreatest (filter test rows) o → test r ≡ true → is_above o ≡ false
      → IsGreatest (filter test (rows ++ r ∷ [])) o
  leaves None h e above = absurd (true≢false above)
  leaves (Some b) h e above =
      let le : r.vers ≤ b.vers = grind (arith, above) in
      ap greatest (filter_more true e) ∙ not_greater (filter test rows) r b h le

  -- It is not kept.
  pub skips : (o : Option Row) → IsGreatest (filter test rows) o → test r ≡ false
      → IsGreatest (filter test (rows ++ r ∷ [])) o
  skips None h e = filter_more false e ∙ append-nil (filter test rows) ∙ h
  skips (Some b) h e = ap greatest (filter_more false e ∙ append-nil (filter test rows)) ∙ h

-- With more rows there still is one of greatest version.
still_some : (rest rows : List Row) (b : Row) → IsGreatest rows (Some b) → is_some (greatest (rows ++ rest)) ≡ true
still_some [] rows b h = ap is_some (ap greatest (append-nil rows) ∙ h)
still_some (r ∷ rest) rows b h =
    ap (λ xs. is_some (greatest xs)) (sym (append_assoc rows (r ∷ []) rest)) ∙ by (nat_lt b.vers r.vers) refl
    (λ c k. still_some rest (rows ++ r ∷ []) c k)
  where
    by : (t : Bool) → nat_lt b.vers r.vers ≡ t
        → ((c : Row) → IsGreatest (rows ++ r ∷ []) (Some c) → is_some (greatest ((rows ++ r ∷ []) ++ rest)) ≡ true)
        → is_some (greatest ((rows ++ r ∷ []) ++ rest)) ≡ true
    by true e more = more r (greater rows r b h ((Decides-ltb b.vers r.vers).0 e))
    by false e more = let le : r.vers ≤ b.vers = grind (arith, e) in more b (not_greater rows r b h le)

-- There is a row of greatest version among those that a test keeps where it keeps one.
some_retained : (test : Row → Bool) (rows : List Row) → is_some (greatest (filter test rows)) ≡ list_any test rows
some_retained test rows = some (filter test rows) ∙ any test rows
  where
    is_filled : List Row → Bool
    is_filled [] = false
    is_filled (x ∷ xs) = true

    some : (xs : List Row) → is_some (greatest xs) ≡ is_filled xs
    some [] = refl
    some (x ∷ xs) = still_some xs (x ∷ []) x (first [] x refl)

    any : (test : Row → Bool) (xs : List Row) → is_filled (filter test xs) ≡ list_any test xs
    any test [] = refl
    any test (x ∷ xs) = by (test x) (any test xs)
      where
        by : (b : Bool) → is_filled (filter test xs) ≡ list_any test xs
            → is_filled (cond b (x ∷ filter test xs) (filter test xs)) ≡ (b || list_any test xs)
        by true e = refl
        by false e = e

-- A row is looked up exactly where one of the program is there over the transport, in whatever version.
pub some_looked_up : (rows : List Row) (prog vers : ℕ) (netid : List ℕ)
    → is_some (look_up rows prog vers netid) ≡ list_any (is_over prog netid) rows
some_looked_up rows prog vers netid =
    either (row_at rows prog vers netid) (greatest (filter (is_over prog netid) rows))
    ∙ (λ j. find_is_any (is_at prog vers netid) rows j || some_retained (is_over prog netid) rows j)
    ∙ less rows
  where
    either : (a b : Option Row) → is_some (option_or a b) ≡ (is_some a || is_some b)
    either None b = refl
    either (Some r) b = refl

    -- A row of the version is one of the program.
    under : (p v n : Bool) → ((p && v) && n) ≡ true → (p && n) ≡ true
    under true true n e = e
    under true false n e = absurd (true≢false (sym e))
    under false v n e = absurd (true≢false (sym e))

    less : (xs : List Row)
        → (list_any (is_at prog vers netid) xs || list_any (is_over prog netid) xs) ≡ list_any (is_over prog netid) xs
    less [] = refl
    less (x ∷ xs) = by (is_at prog vers netid x) refl (is_over prog netid x) refl (less xs)
      where
        by : (a : Bool) → is_at prog vers netid x ≡ a → (o : Bool) → is_over prog netid x ≡ o
            → (list_any (is_at prog vers netid) xs || list_any (is_over prog netid) xs)
            ≡ list_any (is_over prog netid) xs
            → ((a || list_any (is_at prog vers netid) xs) || (o || list_any (is_over prog netid) xs))
            ≡ (o || list_any (is_over prog netid) xs)
        by true e o f rest =
            let on : o ≡ true = sym f ∙ under (nat_eq prog x.prog) (nat_eq vers x.vers) (bytes_eq netid x.netid) e in
            sym (ap (λ t. t || list_any (is_over prog netid) xs) on)
        by false e true f rest = or-true (list_any (is_at prog vers netid) xs)
        by false e false f rest = rest
