-- One more name in the set in which names are looked up.
use Rattle.std.proofs.Common.{◌≡◌, Ordering, ℕ, Bool, true, false, cond, ◌||◌, List, [], ◌∷◌, ◌++◌, refl, sym, ap, ◌∙◌}
use Rattle.std.specs.BTreeSet.{BTreeSet, Updates, contains_by, IsUnchanged}
use Rattle.std.specs.BTreeMap.{is_at}
use Rattle.std.specs.List.{list_any}
use Rattle.std.specs.Ordering.{nat_cmp, is_eq}
use Rattle.std.specs.Cmp.Lexicographic.{slice_cmp}
use Rattle.std.specs.Str.{bytes_eq}
use Rattle.std.proofs.lemmas.List.Folds.{list_any-append}
use Rattle.std.proofs.lemmas.Map.Text.{is_eq-slice_cmp}
use Rattle.std.proofs.lemmas.Slice.Eq.{bytes_eq-Decides}
use Rattle.std.proofs.lemmas.Bool.Decides.{same_from_decides, Decides-like}
use denote.Ref.{Bor}
use Rattle.xdr_dialect.specs.Directives.{is_among}
use Rattle.xdr_dialect.specs.Private.Owned.{HasAll}

abbrev names_cmp : Bor (List ℕ) → Bor (List ℕ) → Ordering
names_cmp x y = slice_cmp nat_cmp x.now y.now

-- names are alike from either side
alike : (a b : List ℕ) → bytes_eq a b ≡ bytes_eq b a
alike a b = same_from_decides _ _ (bytes_eq-Decides a b) (Decides-like _ sym sym (bytes_eq-Decides b a))

one_of_two : (same there : Bool) → cond same true there ≡ there || (same || false)
one_of_two true true = refl
one_of_two true false = refl
one_of_two false true = refl
one_of_two false false = refl

pub added : (s t : BTreeSet (Bor (List ℕ))) (k : Bor (List ℕ)) (ns : List (List ℕ)) → HasAll s ns
    → Updates names_cmp s t k true → HasAll t (ns ++ k.now ∷ [])
added s t k ns has u = λ q.
    let here : contains_by (λ (x : Bor (List ℕ)). slice_cmp nat_cmp q x.now) t
    ≡ cond (is_eq (slice_cmp nat_cmp k.now q)) true (contains_by (λ (x : Bor (List ℕ)). slice_cmp nat_cmp q x.now) s) =
    u.0 (record { ref_ptr = (0, 0); now = q }) in
    rw (here, is_eq-slice_cmp k.now q, alike k.now q, has q)
    (one_of_two (bytes_eq q k.now) (is_among ns q) ∙ sym (list_any-append (bytes_eq q) ns (k.now ∷ [])))

pub stays : (s t : BTreeSet (Bor (List ℕ))) (ns : List (List ℕ)) → HasAll s ns → IsUnchanged s t → HasAll t ns
stays s t ns has e = λ q.
    ap (λ (ks : List (Bor (List ℕ))). list_any (is_at (λ (x : Bor (List ℕ)). slice_cmp nat_cmp q x.now)) ks) e ∙ has q

pub none : (s : BTreeSet (Bor (List ℕ))) → s.keys ≡ [] → HasAll s []
none s e = λ q.
    ap (λ (ks : List (Bor (List ℕ))). list_any (is_at (λ (x : Bor (List ℕ)). slice_cmp nat_cmp q x.now)) ks) e

-- what one more name and none make of the set
pub ruleset one_more = (added, stays, none)
