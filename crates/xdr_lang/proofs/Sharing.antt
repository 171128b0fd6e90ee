-- Names that are apart: each list by itself, and from the others.
use Rattle.std.proofs.Common.{◌≡◌, ℕ, Bool, true, false, cond, not, ◌||◌, List, [], ◌∷◌, ◌++◌, Some, is_some, map}
use Rattle.std.proofs.Common.{refl, sym, ap, ◌∙◌, inl, inr}
use Rattle.std.specs.Prelude.{filter}
use Rattle.std.specs.List.{list_any}
use Rattle.std.specs.Str.{bytes_eq}
use Rattle.std.proofs.Math.Bool.{or-false, or_assoc}
use Rattle.std.proofs.lemmas.Bool.{cases_Bool as test}
use Rattle.std.proofs.lemmas.List.{append_assoc, append-nil, map-append}
use Rattle.std.proofs.lemmas.List.Elements.{filter-append}
use Rattle.std.proofs.lemmas.List.Folds.{list_any-append}
use Rattle.xdr_tokens.proofs.Options.{bind_some}
use Rattle.xdr_grammar.specs.Outline as out
use Rattle.xdr_constants.specs.Constants.{Known, known, numbers, entry_number}
use Rattle.xdr_constants.specs.Names.{names, repeat_after}
use Rattle.xdr_lang.specs.Distinct.{repeats, is_name, names_repeat}
use Rattle.xdr_lang.specs.LookUp.{type_named}
use Rattle.xdr_lang.specs.Private.Tables.{type_names, share}
use Rattle.xdr_lang.proofs.Sets.{bytes_eq-sym}

-- ---- one of two tests

neither : (a b : Bool) → (a || b) ≡ false → (a ≡ false) × (b ≡ false)
neither false b e = (refl, e)
neither true b e = absurd cc

none_of : (a b : Bool) → a ≡ false → b ≡ false → (a || b) ≡ false
none_of a b e f = rw (e, f) refl

pub was_not : (b : Bool) → not b ≡ true → b ≡ false
was_not false e = refl
was_not true e = absurd cc

moved : (a b c : Bool) → (a || b || c) ≡ (a || c || b)
moved true b c = refl
moved false true true = refl
moved false true false = refl
moved false false true = refl
moved false false false = refl

-- one more name at the end
among_more : (q n : List ℕ) (b : List (List ℕ))
    → list_any (bytes_eq q) (b ++ n ∷ []) ≡ (list_any (bytes_eq q) b || bytes_eq q n)
among_more q n b = list_any-append (bytes_eq q) b (n ∷ [])
    ∙ ap (λ (x : Bool). list_any (bytes_eq q) b || x) (or-false (bytes_eq q n))

-- ---- each name beside those before it

pub same_repeats : (b ns : List (List ℕ)) → repeat_after b ns ≡ repeats bytes_eq b ns
unfolding repeat_after repeats
same_repeats b [] = refl
same_repeats b (n ∷ ns) = ap (λ (t : Bool). list_any (bytes_eq n) b || t) (same_repeats (b ++ n ∷ []) ns)

pub repeats_more : (b ns : List (List ℕ)) (n : List ℕ)
    → repeats bytes_eq b (ns ++ n ∷ []) ≡ (repeats bytes_eq b ns || list_any (bytes_eq n) (b ++ ns))
unfolding repeats
repeats_more b [] n = rw append-nil (or-false (list_any (bytes_eq n) b))
repeats_more b (x ∷ xs) n =
    ap (λ (t : Bool). list_any (bytes_eq x) b || t)
    (repeats_more (b ++ x ∷ []) xs n
    ∙ ap (λ (ys : List (List ℕ)). repeats bytes_eq (b ++ x ∷ []) xs || list_any (bytes_eq n) ys)
    (append_assoc b (x ∷ []) xs))
    ∙ sym (or_assoc (list_any (bytes_eq x) b) (repeats bytes_eq (b ++ x ∷ []) xs)
    (list_any (bytes_eq n) (b ++ x ∷ xs)))

-- names after others
repeats_split : (b xs ys : List (List ℕ))
    → repeats bytes_eq b (xs ++ ys) ≡ (repeats bytes_eq b xs || repeats bytes_eq (b ++ xs) ys)
unfolding repeats
repeats_split b [] ys = rw append-nil refl
repeats_split b (x ∷ xs) ys =
    ap (λ (t : Bool). list_any (bytes_eq x) b || t)
    (repeats_split (b ++ x ∷ []) xs ys
    ∙ ap (λ (zs : List (List ℕ)). repeats bytes_eq (b ++ x ∷ []) xs || repeats bytes_eq zs ys)
    (append_assoc b (x ∷ []) xs))
    ∙ sym (or_assoc (list_any (bytes_eq x) b) (repeats bytes_eq (b ++ x ∷ []) xs)
    (repeats bytes_eq (b ++ x ∷ xs) ys))

-- Names before which others came too, of which they have none.
apart_more : (b e all xs : List (List ℕ))
    → ((q : List ℕ) → list_any (bytes_eq q) all ≡ (list_any (bytes_eq q) b || list_any (bytes_eq q) e))
    → repeats bytes_eq b xs ≡ false → share xs e ≡ false → repeats bytes_eq all xs ≡ false
unfolding repeats
apart_more b e all [] h r s = refl
apart_more b e all (x ∷ xs) h r s =
    let rs = neither (list_any (bytes_eq x) b) (repeats bytes_eq (b ++ x ∷ []) xs) r in
    let ss = neither (list_any (bytes_eq x) e) (share xs e) s in
    let here : list_any (bytes_eq x) all ≡ false = rw (h x, rs.0, ss.0) refl in
    let more : (q : List ℕ) → list_any (bytes_eq q) (all ++ x ∷ [])
    ≡ (list_any (bytes_eq q) (b ++ x ∷ []) || list_any (bytes_eq q) e) = λ q.
    rw (among_more q x all, among_more q x b, h q)
    (moved (list_any (bytes_eq q) b) (list_any (bytes_eq q) e) (bytes_eq q x)) in
    none_of (list_any (bytes_eq x) all) (repeats bytes_eq (all ++ x ∷ []) xs) here
    (apart_more (b ++ x ∷ []) e (all ++ x ∷ []) xs more rs.1 ss.1)

-- ---- void left out

kept_any : (f : List ℕ → Bool) (x : List ℕ) (b : Bool) (ys : List (List ℕ)) → f x ≡ false → list_any f ys ≡ false
    → list_any f (cond b (x ∷ ys) ys) ≡ false
kept_any f x true ys e h = rw e h
kept_any f x false ys e h = h

any_kept : (f p : List ℕ → Bool) (xs : List (List ℕ)) → list_any f xs ≡ false → list_any f (filter p xs) ≡ false
any_kept f p [] e = refl
any_kept f p (x ∷ xs) e =
    let es = neither (f x) (list_any f xs) e in
    kept_any f x (p x) (filter p xs) es.0 (any_kept f p xs es.1)

share_kept : (p : List ℕ → Bool) (xs ys : List (List ℕ)) → share xs ys ≡ false → share xs (filter p ys) ≡ false
share_kept p [] ys e = refl
share_kept p (x ∷ xs) ys e =
    let es = neither (list_any (bytes_eq x) ys) (share xs ys) e in
    none_of (list_any (bytes_eq x) (filter p ys)) (share xs (filter p ys)) (any_kept (bytes_eq x) p ys es.0)
    (share_kept p xs ys es.1)

both_kept : (p : List ℕ → Bool) (xs ys : List (List ℕ)) → share xs ys ≡ false
    → share (filter p xs) (filter p ys) ≡ false
both_kept p xs ys e = any_kept (λ n. list_any (bytes_eq n) (filter p ys)) p xs (share_kept p xs ys e)

repeats_kept : (p : List ℕ → Bool) (b c xs : List (List ℕ))
    → ((q : List ℕ) → list_any (bytes_eq q) b ≡ false → list_any (bytes_eq q) c ≡ false)
    → repeats bytes_eq b xs ≡ false → repeats bytes_eq c (filter p xs) ≡ false
unfolding repeats
repeats_kept p b c [] h r = refl
repeats_kept p b c (x ∷ xs) h r =
    let rs = neither (list_any (bytes_eq x) b) (repeats bytes_eq (b ++ x ∷ []) xs) r in
    elim (test (p x)) [
      | inl on ↦
          let more : (q : List ℕ) → list_any (bytes_eq q) (b ++ x ∷ []) ≡ false
          → list_any (bytes_eq q) (c ++ x ∷ []) ≡ false = λ q e.
          let es = neither (list_any (bytes_eq q) b) (bytes_eq q x) (sym (among_more q x b) ∙ e) in
          among_more q x c ∙ none_of (list_any (bytes_eq q) c) (bytes_eq q x) (h q es.0) es.1 in
          rw on (none_of (list_any (bytes_eq x) c) (repeats bytes_eq (c ++ x ∷ []) (filter p xs)) (h x rs.0)
          (repeats_kept p (b ++ x ∷ []) (c ++ x ∷ []) xs more rs.1))
      | inr off ↦
          let more : (q : List ℕ) → list_any (bytes_eq q) (b ++ x ∷ []) ≡ false → list_any (bytes_eq q) c ≡ false =
          λ q e. h q (neither (list_any (bytes_eq q) b) (bytes_eq q x) (sym (among_more q x b) ∙ e)).0 in
          rw off (repeats_kept p (b ++ x ∷ []) c xs more rs.1)
    ]

pub all_kept : (xs : List (List ℕ)) → repeats bytes_eq [] xs ≡ false
    → repeats bytes_eq [] (filter is_name xs) ≡ false
all_kept xs r = repeats_kept is_name [] [] xs (λ q e. e) r

-- ---- names of two lists

share_cons : (xs : List (List ℕ)) (y : List ℕ) (ys : List (List ℕ)) → share xs (y ∷ ys) ≡ false
    → (list_any (bytes_eq y) xs ≡ false) × (share xs ys ≡ false)
share_cons [] y ys e = (refl, refl)
share_cons (x ∷ xs) y ys e =
    let es = neither (bytes_eq x y || list_any (bytes_eq x) ys) (share xs (y ∷ ys)) e in
    let here = neither (bytes_eq x y) (list_any (bytes_eq x) ys) es.0 in
    let rest = share_cons xs y ys es.1 in (
      none_of (bytes_eq y x) (list_any (bytes_eq y) xs) (bytes_eq-sym y x ∙ here.0) rest.0,
      none_of (list_any (bytes_eq x) ys) (share xs ys) here.1 rest.1,
    )

share_flip : (xs ys : List (List ℕ)) → share xs ys ≡ false → share ys xs ≡ false
share_flip xs [] e = refl
share_flip xs (y ∷ ys) e =
    let es = share_cons xs y ys e in
    none_of (list_any (bytes_eq y) xs) (share ys xs) es.0 (share_flip xs ys es.1)

share_split : (xs ys others : List (List ℕ)) → share (xs ++ ys) others ≡ false
    → (share xs others ≡ false) × (share ys others ≡ false)
share_split xs ys others e = neither (share xs others) (share ys others)
    (sym (list_any-append (λ n. list_any (bytes_eq n) others) xs ys) ∙ e)

share_both : (xs a b : List (List ℕ)) → share xs a ≡ false → share xs b ≡ false → share xs (a ++ b) ≡ false
share_both [] a b e f = refl
share_both (x ∷ xs) a b e f =
    let es = neither (list_any (bytes_eq x) a) (share xs a) e in
    let fs = neither (list_any (bytes_eq x) b) (share xs b) f in
    none_of (list_any (bytes_eq x) (a ++ b)) (share xs (a ++ b))
    (list_any-append (bytes_eq x) a b ∙ none_of (list_any (bytes_eq x) a) (list_any (bytes_eq x) b) es.0 fs.0)
    (share_both xs a b es.1 fs.1)

-- Four lists of names that are apart, the first and the last together.
four : (g c t p : List (List ℕ)) → repeats bytes_eq [] c ≡ false → repeats bytes_eq [] t ≡ false → share t c ≡ false
    → repeats bytes_eq [] (g ++ p) ≡ false → share (g ++ p) c ≡ false → share (g ++ p) t ≡ false
    → repeats bytes_eq [] (((g ++ c) ++ t) ++ p) ≡ false
four g c t p rc rt tc rgp oc ot =
    let gp = neither (repeats bytes_eq [] g) (repeats bytes_eq g p) (sym (repeats_split [] g p) ∙ rgp) in
    let ocs = share_split g p c oc in
    let ots = share_split g p t ot in
    let first : repeats bytes_eq g c ≡ false = apart_more [] g g c (λ q. refl) rc (share_flip g c ocs.0) in
    let second : repeats bytes_eq (g ++ c) t ≡ false = apart_more [] (g ++ c) (g ++ c) t (λ q. refl) rt
    (share_both t g c (share_flip g t ots.0) tc) in
    let third : repeats bytes_eq ((g ++ c) ++ t) p ≡ false = apart_more g (c ++ t) ((g ++ c) ++ t) p
    (λ q. ap (list_any (bytes_eq q)) (append_assoc g c t) ∙ list_any-append (bytes_eq q) g (c ++ t)) gp.1
    (share_both p c t ocs.1 ots.1) in
    let gc : repeats bytes_eq [] (g ++ c) ≡ false = repeats_split [] g c
    ∙ none_of (repeats bytes_eq [] g) (repeats bytes_eq g c) gp.0 first in
    let gct : repeats bytes_eq [] ((g ++ c) ++ t) ≡ false = repeats_split [] (g ++ c) t
    ∙ none_of (repeats bytes_eq [] (g ++ c)) (repeats bytes_eq (g ++ c) t) gc second in
    repeats_split [] ((g ++ c) ++ t) p
    ∙ none_of (repeats bytes_eq [] ((g ++ c) ++ t)) (repeats bytes_eq ((g ++ c) ++ t) p) gct third

-- The same of names with voids among them. Of the first and the last together voids are left out already.
pub all_apart : (g c t p : List (List ℕ)) → repeat_after [] c ≡ false → repeats bytes_eq [] t ≡ false
    → share t c ≡ false → names_repeat (g ++ p) ≡ false → share (g ++ p) c ≡ false → share (g ++ p) t ≡ false
    → names_repeat (((g ++ c) ++ t) ++ p) ≡ false
unfolding names_repeat
all_apart g c t p rc rt tc rgp oc ot =
    let k = filter is_name in
    let split : k (((g ++ c) ++ t) ++ p) ≡ ((k g ++ k c) ++ k t) ++ k p = rw (
      filter-append is_name ((g ++ c) ++ t) p,
      filter-append is_name (g ++ c) t,
      filter-append is_name g c,
    ) refl in
    let ends : k (g ++ p) ≡ k g ++ k p = filter-append is_name g p in
    rw split (four (k g) (k c) (k t) (k p) (all_kept c (sym (same_repeats [] c) ∙ rc)) (all_kept t rt)
    (both_kept is_name t c tc) (rw ends at rgp) (rw ends at (both_kept is_name (g ++ p) c oc))
    (rw ends at (both_kept is_name (g ++ p) t ot)))

-- ---- look-ups

pub known_any : (n : List ℕ) (ks : List Known) → is_some (known n ks) ≡ list_any (bytes_eq n) (names ks)
unfolding known
known_any n [] = refl
known_any n (k ∷ ks) =
    elim (test (bytes_eq k.name n)) [
      | inl on ↦ rw (bytes_eq-sym n k.name, on) refl
      | inr off ↦ rw (bytes_eq-sym n k.name, off) (known_any n ks)
    ]

pub type_any : (n : List ℕ) (ts : List out.Field)
    → is_some (type_named n ts) ≡ list_any (bytes_eq n) (type_names ts)
unfolding type_named
type_any n [] = refl
type_any n (t ∷ ts) =
    elim (test (bytes_eq t.name n)) [
      | inl on ↦ rw (bytes_eq-sym n t.name, on) refl
      | inr off ↦ rw (bytes_eq-sym n t.name, off) (type_any n ts)
    ]

-- constants keep their names
numbers_names : (es : List out.Entry) (ks all : List Known) → numbers es ks ≡ Some all
    → names all ≡ names ks ++ map (λ (e : out.Entry). e.name) es
unfolding numbers
numbers_names [] ks all e = let same : ks ≡ all = cc in rw (← same, append-nil (names ks)) refl
numbers_names (x ∷ es) ks all e =
    let b = bind_some (entry_number ks x)
    (λ v. numbers es (ks ++ (record { name = x.name; value = v; by_const = x.by_const }) ∷ [])) all e in
    let one : List Known = (record { name = x.name; value = b.0; by_const = x.by_const }) ∷ [] in
    numbers_names es (ks ++ one) all b.2
    ∙ (rw (map-append (λ (k : Known). k.name) ks one, append_assoc) refl)

pub same_names : (es : List out.Entry) (all : List Known) → numbers es [] ≡ Some all
    → names all ≡ map (λ (e : out.Entry). e.name) es
same_names es all e = numbers_names es [] all e
