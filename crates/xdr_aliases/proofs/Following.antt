-- Names that stand for numbers by other names, said of the whole text.
use Rattle.std.proofs.Common.{◌≡◌, ◌⊎◌, ℕ, zero, suc, ◌+◌, ◌≤◌, ℤ, Bool, true, false, List, [], ◌∷◌, ◌++◌, length}
use Rattle.std.proofs.Common.{Option, Some, None, option_map, refl, sym, ap, subst, ◌∙◌, inl, inr, arith, append_assoc}
use Rattle.std.proofs.Common.{length-append}
use Rattle.std.specs.List.{list_any}
use Rattle.std.specs.Str.{bytes_eq}
use Rattle.std.proofs.lemmas.Bool.{cases_Bool as test}
use Rattle.xdr_tokens.specs.Tokens.{Lexeme, Word, Name, Number, Sign}
use Rattle.xdr_tokens.proofs.Options.{some_is, some_is_not}
use Rattle.xdr_constants.specs.Constants.{Known, known}
use Rattle.xdr_aliases.specs.Aliases.{name_in_front, name_given, behind_name, given, clashes, is_number}
use Rattle.xdr_aliases.specs.Aliases.{number_named, named_by, with_last, followed_one, followed}
use Rattle.xdr_aliases.specs.Numbered.{equal, AreArguments, Gives, GivesName, StandsFor, by_number, by_name}
use Rattle.xdr_aliases.specs.Numbered.{NoneStandsForTwo}
use Rattle.xdr_aliases.proofs.Giving.{is_false, is_true, IsIn, any_of, none_of, found, is_known, is_that, is_not_that}
use Rattle.xdr_aliases.proofs.Giving.{none_or_some, number_known, reads_names, given_by_name, given_token, is_given}

-- ---- the names with their numbers, behind so many tokens

abbrev pub table_at : (follows : Bool) → List Known → List Lexeme → (place : ℕ) → List Known
table_at follows ks ts zero = ks
table_at follows ks [] (suc p) = ks
table_at follows ks (t ∷ ts) (suc p) = table_at follows (followed_one follows ks t ts) ts p

in_left : (k : Known) (ks xs : List Known) → IsIn k ks → IsIn k (ks ++ xs)
in_left k [] xs h = absurd h
in_left k (x ∷ ks) xs h =
    elim h [
      | inl same ↦ inl same
      | inr there ↦ inr (in_left k ks xs there)
    ]

in_last : (k : Known) (ks : List Known) → IsIn k (ks ++ k ∷ [])
in_last k [] = inl refl
in_last k (x ∷ ks) = inr (in_last k ks)

in_either : (k x : Known) (ks : List Known) → IsIn k (ks ++ x ∷ []) → IsIn k ks ⊎ (k ≡ x)
in_either k x [] h =
    elim h [
      | inl same ↦ inr same
      | inr there ↦ absurd there
    ]
in_either k x (y ∷ ks) h =
    elim h [
      | inl same ↦ inl (inl same)
      | inr there ↦ elim (in_either k x ks there) [
        | inl earlier ↦ inl (inr earlier)
        | inr last ↦ inr last
      ]
    ]

known_left : (n : List ℕ) (ks xs : List Known) (y : ℤ × Bool) → known n ks ≡ Some y → known n (ks ++ xs) ≡ Some y
unfolding known
known_left n [] xs y e = absurd (some_is_not y (sym e))
known_left n (k ∷ ks) xs y e =
    elim (test (bytes_eq k.name n)) [
      | inl on ↦
          let here : Some (k.value, k.by_const) ≡ Some y = rw on at e in rw on here
      | inr off ↦
          let later : known n ks ≡ Some y = rw off at e in rw off (known_left n ks xs y later)
    ]

last_grows : (ks : List Known) (o : Option Known) (k : Known) → IsIn k ks → IsIn k (with_last ks o)
last_grows ks None k h = h
last_grows ks (Some x) k h = in_left k ks (x ∷ []) h

one_grows : (f : Bool) (ks : List Known) (t : Lexeme) (ts : List Lexeme) (k : Known) → IsIn k ks
    → IsIn k (followed_one f ks t ts)
one_grows false ks t ts k h = h
one_grows true ks t ts k h = last_grows ks (named_by ks t ts) k h

last_keeps : (ks : List Known) (o : Option Known) (n : List ℕ) (y : ℤ × Bool) → known n ks ≡ Some y
    → known n (with_last ks o) ≡ Some y
last_keeps ks None n y e = e
last_keeps ks (Some x) n y e = known_left n ks (x ∷ []) y e

one_keeps : (f : Bool) (ks : List Known) (t : Lexeme) (ts : List Lexeme) (n : List ℕ) (y : ℤ × Bool)
    → known n ks ≡ Some y → known n (followed_one f ks t ts) ≡ Some y
one_keeps false ks t ts n y e = e
one_keeps true ks t ts n y e = last_keeps ks (named_by ks t ts) n y e

all_grow : (f : Bool) (ks : List Known) (ts : List Lexeme) (k : Known) → IsIn k ks → IsIn k (followed f ks ts)
unfolding followed
all_grow f ks [] k h = h
all_grow f ks (t ∷ ts) k h = all_grow f (followed_one f ks t ts) ts k (one_grows f ks t ts k h)

all_keep : (f : Bool) (ks : List Known) (ts : List Lexeme) (n : List ℕ) (y : ℤ × Bool) → known n ks ≡ Some y
    → known n (followed f ks ts) ≡ Some y
unfolding followed
all_keep f ks [] n y e = e
all_keep f ks (t ∷ ts) n y e = all_keep f (followed_one f ks t ts) ts n y (one_keeps f ks t ts n y e)

table_in : (f : Bool) (ks : List Known) (ts : List Lexeme) (p : ℕ) (k : Known) → IsIn k (table_at f ks ts p)
    → IsIn k (followed f ks ts)
unfolding followed
table_in f ks ts zero k h = all_grow f ks ts k h
table_in f ks [] (suc p) k h = h
table_in f ks (t ∷ ts) (suc p) k h = table_in f (followed_one f ks t ts) ts p k h

table_keeps : (f : Bool) (ks : List Known) (ts : List Lexeme) (p : ℕ) (n : List ℕ) (y : ℤ × Bool)
    → known n (table_at f ks ts p) ≡ Some y → known n (followed f ks ts) ≡ Some y
unfolding followed
table_keeps f ks ts zero n y e = all_keep f ks ts n y e
table_keeps f ks [] (suc p) n y e = e
table_keeps f ks (t ∷ ts) (suc p) n y e = table_keeps f (followed_one f ks t ts) ts p n y e

-- what is there at the beginning is there at each place
table_grows : (f : Bool) (ks : List Known) (ts : List Lexeme) (p : ℕ) (k : Known) → IsIn k ks
    → IsIn k (table_at f ks ts p)
table_grows f ks ts zero k h = h
table_grows f ks [] (suc p) k h = h
table_grows f ks (t ∷ ts) (suc p) k h = table_grows f (followed_one f ks t ts) ts p k (one_grows f ks t ts k h)

pub table_start : (f : Bool) (ks : List Known) (ts : List Lexeme) (p : ℕ) (n : List ℕ) (y : ℤ × Bool)
    → known n ks ≡ Some y → known n (table_at f ks ts p) ≡ Some y
table_start f ks ts zero n y e = e
table_start f ks [] (suc p) n y e = e
table_start f ks (t ∷ ts) (suc p) n y e =
    table_start f (followed_one f ks t ts) ts p n y (one_keeps f ks t ts n y e)

-- what is there at a place is there at each later one
table_later : (f : Bool) (ks : List Known) (ts : List Lexeme) (p q : ℕ) (k : Known) → p ≤ q
    → IsIn k (table_at f ks ts p) → IsIn k (table_at f ks ts q)
table_later f ks ts zero q k le h = table_grows f ks ts q k h
table_later f ks ts (suc p) zero k le h = absurd (omega (arith, le))
table_later f ks [] (suc p) (suc q) k le h = h
table_later f ks (t ∷ ts) (suc p) (suc q) k le h =
    table_later f (followed_one f ks t ts) ts p q k (omega (arith, le)) h

at_end : (f : Bool) (ks : List Known) (ts : List Lexeme) → table_at f ks ts (length ts) ≡ followed f ks ts
unfolding followed
at_end f ks [] = refl
at_end f ks (t ∷ ts) = at_end f (followed_one f ks t ts) ts

pub table_off : (ks : List Known) (ts : List Lexeme) (p : ℕ) → table_at false ks ts p ≡ ks
table_off ks ts zero = refl
table_off ks [] (suc p) = refl
table_off ks (t ∷ ts) (suc p) = table_off ks ts p

-- ---- each name with its number stands for it

pub later : (ts : List Lexeme) (p q : ℕ) (n : List ℕ) (v : ℤ) → p ≤ q → StandsFor ts p n v → StandsFor ts q n v
later ts p q n v le (by_number _ _ _ g) = by_number q n v g
later ts p q n v le (by_name _ earlier _ m _ g lt s) = by_name q earlier n m v g (omega (arith, le, lt)) s

-- the names with their numbers stand for them at a place
abbrev Sound : List Lexeme → (place : ℕ) → List Known → Type 0
Sound ts place ks = (k : Known) → IsIn k ks → StandsFor ts place k.name k.value

gives_name : (whole front : List Lexeme) (place : ℕ) (n m : List ℕ) (ts : List Lexeme) → length front ≡ place
    → whole ≡ front ++ Name n ∷ ts → name_given (behind_name ts) ≡ Some m → GivesName whole place n m
gives_name whole front place n m ts at split e =
    let r = given_by_name name_in_front (λ z. Name z) reads_names ts m e in record {
      before = front;
      arguments = r.0;
      behind = r.1;
      are_arguments = r.2;
      split = split ∙ ap (λ (us : List Lexeme). front ++ Name n ∷ us) r.3;
      stands = at;
    }

stands_found : (ts : List Lexeme) (place : ℕ) (ks : List Known) → Sound ts place ks → (n : List ℕ) (x : ℤ × Bool)
    → known n ks ≡ Some x → StandsFor ts place n x.0
stands_found ts place ks sound n x e =
    let r = found n ks x e in
    subst (λ (m : List ℕ). StandsFor ts place m x.0) r.2
    (subst (λ (v : ℤ). StandsFor ts place r.0.name v) r.3 (sound r.0 r.1))

sound_found : (whole : List Lexeme) (place : ℕ) (ks : List Known) → Sound whole place ks → (n m : List ℕ)
    → GivesName whole place n m → (x : Option (ℤ × Bool)) → known m ks ≡ x
    → Sound whole (suc place)
    (with_last ks (option_map (number_known n) (option_map (λ (y : ℤ × Bool). y.0) x)))
sound_found whole place ks sound n m g None e k h =
    later whole place (suc place) k.name k.value (omega arith) (sound k h)
sound_found whole place ks sound n m g (Some x) e k h =
    elim (in_either k (number_known n x.0) ks h) [
      | inl earlier ↦ later whole place (suc place) k.name k.value (omega arith) (sound k earlier)
      | inr same ↦
          subst (λ (y : Known). StandsFor whole (suc place) y.name y.value) (sym same)
          (by_name (suc place) place n m x.0 g (omega arith) (stands_found whole place ks sound m x e))
    ]

sound_name : (whole front : List Lexeme) (place : ℕ) (ks : List Known) → Sound whole place ks → (n : List ℕ)
    (ts : List Lexeme) → length front ≡ place → whole ≡ front ++ Name n ∷ ts → (o : Option (List ℕ))
    → name_given (behind_name ts) ≡ o
    → Sound whole (suc place) (with_last ks (option_map (number_known n) (number_named ks o)))
sound_name whole front place ks sound n ts at split None e k h =
    later whole place (suc place) k.name k.value (omega arith) (sound k h)
sound_name whole front place ks sound n ts at split (Some m) e k h =
    sound_found whole place ks sound n m (gives_name whole front place n m ts at split e) (known m ks) refl k h

sound_one : (whole front : List Lexeme) (place : ℕ) (ks : List Known) → Sound whole place ks → (f : Bool) (t : Lexeme)
    (ts : List Lexeme) → length front ≡ place → whole ≡ front ++ t ∷ ts
    → Sound whole (suc place) (followed_one f ks t ts)
sound_one whole front place ks sound false t ts at split k h =
    later whole place (suc place) k.name k.value (omega arith) (sound k h)
sound_one whole front place ks sound true (Word w) ts at split k h =
    later whole place (suc place) k.name k.value (omega arith) (sound k h)
sound_one whole front place ks sound true (Name n) ts at split k h =
    sound_name whole front place ks sound n ts at split (name_given (behind_name ts)) refl k h
sound_one whole front place ks sound true (Number v) ts at split k h =
    later whole place (suc place) k.name k.value (omega arith) (sound k h)
sound_one whole front place ks sound true (Sign m) ts at split k h =
    later whole place (suc place) k.name k.value (omega arith) (sound k h)

sound_from : (f : Bool) (whole front : List Lexeme) (place : ℕ) (ks : List Known) → Sound whole place ks
    → (ts : List Lexeme) → length front ≡ place → whole ≡ front ++ ts → (p q : ℕ) → q ≡ place + p
    → Sound whole q (table_at f ks ts p)
sound_from f whole front place ks sound ts at split zero q e k h =
    later whole place q k.name k.value (omega (arith, e)) (sound k h)
sound_from f whole front place ks sound [] at split (suc p) q e k h =
    later whole place q k.name k.value (omega (arith, e)) (sound k h)
sound_from f whole front place ks sound (t ∷ ts) at split (suc p) q e k h =
    let one : length (front ++ t ∷ []) ≡ suc place = omega (arith, length-append front (t ∷ []), at) in
    sound_from f whole (front ++ t ∷ []) (suc place) (followed_one f ks t ts)
    (sound_one whole front place ks sound f t ts at split) ts one (split ∙ sym (append_assoc front (t ∷ []) ts)) p q
    (omega (arith, e)) k h

-- at each place
sound_at : (f : Bool) (ts : List Lexeme) (ks : List Known) → ((k : Known) → IsIn k ks → Gives ts k.name k.value)
    → (p : ℕ) → Sound ts p (table_at f ks ts p)
sound_at f ts ks gives p =
    sound_from f ts [] 0 ks (λ k h. by_number 0 k.name k.value (gives k h)) ts refl refl p p (omega arith)

pub stands_at : (f : Bool) (ts : List Lexeme) (ks : List Known)
    → ((k : Known) → IsIn k ks → Gives ts k.name k.value) → (p : ℕ) (n : List ℕ) (x : ℤ × Bool)
    → known n (table_at f ks ts p) ≡ Some x → StandsFor ts p n x.0
stands_at f ts ks gives p n x e = stands_found ts p (table_at f ks ts p) (sound_at f ts ks gives p) n x e

sound_end : (ts : List Lexeme) (ks : List Known) → ((k : Known) → IsIn k ks → Gives ts k.name k.value)
    → Sound ts (length ts) (followed true ks ts)
sound_end ts ks gives =
    subst (λ (xs : List Known). Sound ts (length ts) xs) (at_end true ks ts) (sound_at true ts ks gives (length ts))

-- where no name stands for two numbers, none has two
pub no_clash : (ts : List Lexeme) (ks : List Known) → ((k : Known) → IsIn k ks → Gives ts k.name k.value)
    → NoneStandsForTwo ts → list_any (clashes (followed true ks ts)) (followed true ks ts) ≡ false
no_clash ts ks gives one =
    let all = followed true ks ts in
    elim (test (list_any (clashes all) all)) [
      | inl holds ↦
          let c = any_of (clashes all) all holds in
          elim (none_or_some (known c.0.name all)) [
            | inl none ↦ absurd (is_known all c.0 c.1 none)
            | inr some ↦ absurd (is_not_that c.0.value (known c.0.name all) some.0 some.1
                (one c.0.name c.0.value some.0.0 (sound_end ts ks gives c.0 c.1)
                (stands_found ts (length ts) all (sound_end ts ks gives) c.0.name some.0 some.1))
                (is_false (is_number c.0.value (known c.0.name all)) c.2))
          ]
      | inr fails ↦ fails
    ]

-- ---- each name that stands for a number has it

at_name : (ks : List Known) (before : List Lexeme) (n : List ℕ) (args : List Lexeme) (m : List ℕ) (behind : List Lexeme)
    (x : ℤ × Bool) → AreArguments args
    → known m (table_at true ks (before ++ Name n ∷ (args ++ equal ∷ Name m ∷ behind)) (length before)) ≡ Some x
    → IsIn (number_known n x.0)
    (table_at true ks (before ++ Name n ∷ (args ++ equal ∷ Name m ∷ behind)) (suc (length before)))
at_name ks [] n args m behind x a e =
    let k = number_known n x.0 in
    subst (λ (o : Option (List ℕ)). IsIn k (with_last ks (option_map (number_known n) (number_named ks o))))
    (sym (given_token name_in_front args (Name m) behind a))
    (subst (λ (y : Option (ℤ × Bool)). IsIn k
    (with_last ks (option_map (number_known n) (option_map (λ (z : ℤ × Bool). z.0) y)))) (sym e)
    (in_last k ks))
at_name ks (t ∷ before) n args m behind x a e =
    let more = before ++ Name n ∷ (args ++ equal ∷ Name m ∷ behind) in
    at_name (followed_one true ks t more) before n args m behind x a e

at_place : (ks : List Known) (ts : List Lexeme) (place : ℕ) (n m : List ℕ) (x : ℤ × Bool) → GivesName ts place n m
    → known m (table_at true ks ts place) ≡ Some x → IsIn (number_known n x.0) (table_at true ks ts (suc place))
at_place ks ts place n m x g =
    let there = g.before ++ Name n ∷ (g.arguments ++ equal ∷ Name m ∷ g.behind) in
    subst (λ (us : List Lexeme). known m (table_at true ks us place) ≡ Some x
    → IsIn (number_known n x.0) (table_at true ks us (suc place))) (sym g.split)
    (subst (λ (p : ℕ). known m (table_at true ks there p) ≡ Some x
    → IsIn (number_known n x.0) (table_at true ks there (suc p))) g.stands
    (at_name ks g.before n g.arguments m g.behind x g.are_arguments))

-- where no name has two numbers, a name has the one that is listed at a place
pub is_there : (ks : List Known) (ts : List Lexeme)
    → list_any (clashes (followed true ks ts)) (followed true ks ts) ≡ false → (p : ℕ) (n : List ℕ) (v : ℤ)
    (x : ℤ × Bool) → IsIn (number_known n v) (table_at true ks ts p) → known n (table_at true ks ts p) ≡ Some x
    → x.0 ≡ v
is_there ks ts fails p n v x h e =
    let all = followed true ks ts in
    let that = is_that v (known n all) (is_true (is_number v (known n all))
    (none_of (clashes all) all fails (number_known n v) (table_in true ks ts p (number_known n v) h))) in
    let same : x ≡ that.0 = some_is x that.0 (sym (table_keeps true ks ts p n x e) ∙ that.1) in
    ap (λ (y : ℤ × Bool). y.0) same ∙ sym that.2

pub has : (ts : List Lexeme)
    → list_any (clashes (followed true (given ts) ts)) (followed true (given ts) ts) ≡ false → (p : ℕ) (n : List ℕ)
    (v : ℤ) → StandsFor ts p n v → IsIn (number_known n v) (table_at true (given ts) ts p)
has ts fails p n v (by_number _ _ _ g) = table_grows true (given ts) ts p (number_known n v) (is_given ts n v g)
has ts fails p n v (by_name _ earlier _ m _ g lt s) =
    let here = has ts fails earlier m v s in
    elim (none_or_some (known m (table_at true (given ts) ts earlier))) [
      | inl none ↦ absurd (is_known (table_at true (given ts) ts earlier) (number_known m v) here none)
      | inr some ↦
          let same : some.0.0 ≡ v = is_there (given ts) ts fails earlier m v some.0 here some.1 in
          table_later true (given ts) ts (suc earlier) p (number_known n v) (omega (arith, lt))
          (subst (λ (z : ℤ). IsIn (number_known n z) (table_at true (given ts) ts (suc earlier))) same
          (at_place (given ts) ts earlier n m some.0 g some.1))
    ]

-- where none has two, no name stands for two
pub none_stands : (ts : List Lexeme)
    → list_any (clashes (followed true (given ts) ts)) (followed true (given ts) ts) ≡ false → NoneStandsForTwo ts
none_stands ts fails n u v a b =
    let table = table_at true (given ts) ts (length ts) in
    let first = has ts fails (length ts) n u a in
    elim (none_or_some (known n table)) [
      | inl none ↦ absurd (is_known table (number_known n u) first none)
      | inr some ↦
          sym (is_there (given ts) ts fails (length ts) n u some.0 first some.1)
          ∙ is_there (given ts) ts fails (length ts) n v some.0 (has ts fails (length ts) n v b) some.1
    ]
