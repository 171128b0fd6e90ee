-- Names, each compared with those before it.
use Rattle.std.proofs.Common.{◌≡◌, ℕ, ◌+◌, ◌<◌, Bool, true, false, ◌||◌, ◌&&◌, List, [], ◌∷◌, ◌++◌, length, take}
use Rattle.std.proofs.Common.{drop, get_or, refl, sym, ap, ◌∙◌, inl, inr, add-one, take-suc, drop-cons}
use Rattle.std.specs.Prelude.{filter}
use Rattle.std.specs.List.{list_any}
use Rattle.std.specs.Str.{bytes_eq}
use Rattle.std.proofs.lemmas.Bool.{cases_Bool as test}
use Rattle.std.proofs.lemmas.List.{map-append, append-nil}
use Rattle.std.proofs.lemmas.List.Elements.{filter-append}
use Rattle.std.proofs.lemmas.Slice.Eq.{bytes_eq-Decides}
use Rattle.xdr_grammar.specs.declared.outline.Name.{Name}
use Rattle.xdr_lang.specs.Views.{texts}
use Rattle.xdr_lang.specs.Distinct.{repeats, is_name}
use Rattle.xdr_lang.proofs.Sets.{named, unnamed}

-- a name is among names where it is among them with void left out
among_names : (x : List ℕ) (ns : List (List ℕ)) → bytes_eq x [] ≡ false
    → list_any (bytes_eq x) (filter is_name ns) ≡ list_any (bytes_eq x) ns
among_names x [] h = refl
among_names x (n ∷ ns) h =
    elim (test (bytes_eq n [])) [
      | inl on ↦
          let none : n ≡ [] = (bytes_eq-Decides n []).0 on in
          let apart : bytes_eq x n ≡ false = ap (bytes_eq x) none ∙ h in
          rw (unnamed n ns on, apart) (among_names x ns h)
      | inr off ↦ rw (named n ns off) (ap (λ (b : Bool). bytes_eq x n || b) (among_names x ns h))
    ]

-- a name is added to those before
pub again_not : (before : List (List ℕ)) (x : List ℕ) (rest : List (List ℕ)) (all : Bool)
    → false ≡ (is_name x && list_any (bytes_eq x) before)
    → repeats bytes_eq (filter is_name before) (filter is_name (x ∷ rest)) ≡ all
    → repeats bytes_eq (filter is_name (before ++ x ∷ [])) (filter is_name rest) ≡ all
unfolding repeats
again_not before x rest all not so_far =
    elim (test (bytes_eq x [])) [
      | inl on ↦
          rw (filter-append is_name before (x ∷ []), unnamed x [] on, append-nil (filter is_name before))
          (rw (unnamed x rest on) at so_far)
      | inr off ↦
          let apart : list_any (bytes_eq x) before ≡ false = sym (rw off at not) in
          let here : list_any (bytes_eq x) (filter is_name before) ≡ false = among_names x before off ∙ apart in
          rw (filter-append is_name before (x ∷ []), named x [] off) (rw (named x rest off, here) at so_far)
    ]

-- a name is there again
pub again : (before : List (List ℕ)) (x : List ℕ) (rest : List (List ℕ)) (all : Bool)
    → true ≡ (is_name x && list_any (bytes_eq x) before)
    → repeats bytes_eq (filter is_name before) (filter is_name (x ∷ rest)) ≡ all → true ≡ all
unfolding repeats
again before x rest all there so_far =
    elim (test (bytes_eq x [])) [
      | inl on ↦ absurd (let no : true ≡ false = rw on at there in cc)
      | inr off ↦
          let found : list_any (bytes_eq x) before ≡ true = sym (rw off at there) in
          let here : list_any (bytes_eq x) (filter is_name before) ≡ true = among_names x before off ∙ found in
          rw (named x rest off, here) at so_far
    ]

-- the names before one, and those from it on
pub one_on : (ns : List Name) (i : ℕ) (d : Name) → i < length ns
    → (texts (take (i + 1) ns) ≡ texts (take i ns) ++ (get_or ns i d).text.now ∷ [])
    × (texts (drop i ns) ≡ (get_or ns i d).text.now ∷ texts (drop (i + 1) ns))
one_on ns i d lt = (
  rw (add-one, take-suc ns i d lt) (map-append (λ (n : Name). n.text.now) (take i ns) (get_or ns i d ∷ [])),
  rw (add-one, drop-cons ns i d) refl,
)
