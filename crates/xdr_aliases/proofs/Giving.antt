-- What a text gives to names, said of the whole text.
use Rattle.std.proofs.Common.{◌≡◌, ◌⊎◌, ℕ, ℤ, pos, negsuc, Bool, true, false, not, ◌&&◌, ◌||◌, List, [], ◌∷◌}
use Rattle.std.proofs.Common.{◌++◌, Option, Some, None, option_map, refl, sym, ap, subst, ◌∙◌}
use Rattle.std.proofs.Common.{inl, inr, arith, append_assoc, int_le}
use Rattle.std.specs.List.{list_any}
use Rattle.std.specs.Prelude.{◌==◌, if◌then◌else◌}
use Rattle.std.specs.Str.{bytes_eq}
use Rattle.std.proofs.lemmas.Bool.{cases_Bool as test, leb-true, le-leb, eqb-true}
use Rattle.std.proofs.lemmas.Slice.Eq.{bytes_eq-Decides}
use Rattle.xdr_tokens.specs.declared.token.Mark.{Mark}
use Rattle.xdr_tokens.specs.declared.token.Mark.TheVariants as mark
use Rattle.xdr_tokens.specs.Tokens.{Lexeme, Word, Name, Number, Sign}
use Rattle.xdr_tokens.proofs.Options.{some_is, some_is_not}
use Rattle.xdr_dialect.specs.Tests.{mark_number, is_sign, first_is, rest}
use Rattle.xdr_constants.specs.Constants.{Known, known}
use Rattle.xdr_aliases.specs.Aliases.{number_in, number_given, name_in_front, behind_arguments, behind_name}
use Rattle.xdr_aliases.specs.Aliases.{given_by, with_first, given}
use Rattle.xdr_aliases.specs.Aliases.{is_number, clashes}
use Rattle.xdr_aliases.specs.Numbered.{equal, is_round, AreArguments, Gives, NoneHasTwo}

-- ---- truth and numbers

both : (a b : Bool) → a && b ≡ true → (a ≡ true) × (b ≡ true)
both true true e = (refl, refl)
both true false e = absurd cc
both false b e = absurd cc

neither : (a b c : Bool) → (a || b) || c ≡ false → (a ≡ false) × (b ≡ false) × (c ≡ false)
neither false false false e = (refl, refl, refl)
neither true b c e = absurd cc
neither false true c e = absurd cc
neither false false true e = absurd cc

pub is_false : (b : Bool) → not b ≡ true → b ≡ false
is_false false e = refl
is_false true e = absurd cc

pub is_true : (b : Bool) → not b ≡ false → b ≡ true
is_true true e = refl
is_true false e = absurd cc

pub true_is_not : true ≡ false → ⊥
true_is_not e = absurd cc

same_number : (a b : ℤ) → int_le a b && int_le b a ≡ true → a ≡ b
same_number (pos a) (pos b) e =
    let p = both (int_le (pos a) (pos b)) (int_le (pos b) (pos a)) e in
    ap (λ (n : ℕ). pos n) (omega (arith, leb-true a b p.0, leb-true b a p.1))
same_number (pos a) (negsuc b) e = absurd cc
same_number (negsuc a) (pos b) e = absurd cc
same_number (negsuc a) (negsuc b) e =
    let p = both (int_le (negsuc a) (negsuc b)) (int_le (negsuc b) (negsuc a)) e in
    ap (λ (n : ℕ). negsuc n) (omega (arith, leb-true b a p.0, leb-true a b p.1))

least_itself : (a : ℤ) → int_le a a ≡ true
least_itself (pos a) = le-leb a a (omega arith)
least_itself (negsuc a) = le-leb a a (omega arith)

-- ---- marks

-- the mark with a place among all
abbrev mark_at : ℕ → Mark
mark_at n =
    if n == 0 then mark.OpenBrace else
    (if n == 1 then mark.CloseBrace else
    (if n == 2 then mark.OpenRound else
    (if n == 3 then mark.CloseRound else
    (if n == 4 then mark.OpenBracket else
    (if n == 5 then mark.CloseBracket else
    (if n == 6 then mark.Less else
    (if n == 7 then mark.Greater else
    (if n == 8 then mark.Equal else
    (if n == 9 then mark.Comma else
    (if n == 10 then mark.Semicolon else
    (if n == 11 then mark.Colon else mark.Star)))))))))))

back : (m : Mark) → mark_at (mark_number m) ≡ m
back mark.OpenBrace = refl
back mark.CloseBrace = refl
back mark.OpenRound = refl
back mark.CloseRound = refl
back mark.OpenBracket = refl
back mark.CloseBracket = refl
back mark.Less = refl
back mark.Greater = refl
back mark.Equal = refl
back mark.Comma = refl
back mark.Semicolon = refl
back mark.Colon = refl
back mark.Star = refl

sign_of : (m : Mark) (t : Lexeme) → is_sign m t ≡ true → t ≡ Sign m
sign_of m (Word w) e = absurd cc
sign_of m (Name n) e = absurd cc
sign_of m (Number n) e = absurd cc
sign_of m (Sign k) e =
    ap (λ (x : Mark). Sign x) (sym (back k) ∙ (ap mark_at (eqb-true (mark_number k) (mark_number m) e) ∙ back m))

-- ---- elements of lists

abbrev pub IsIn : {A : Type 0} → A → List A → Type 0
IsIn x [] = ⊥
IsIn x (y ∷ ys) = (x ≡ y) ⊎ IsIn x ys

pub any_of : {A : Type 0} (p : A → Bool) (xs : List A) → list_any p xs ≡ true → (x : A) × IsIn x xs × (p x ≡ true)
any_of p [] e = absurd cc
any_of {A} p (x ∷ xs) e =
    elim (test (p x)) [
      | inl on ↦ (x, inl refl, on)
      | inr off ↦
          let later : list_any p xs ≡ true = rw off at e in
          let r = any_of p xs later in (r.0, inr r.1, r.2)
    ]

pub none_of : {A : Type 0} (p : A → Bool) (xs : List A) → list_any p xs ≡ false → (x : A) → IsIn x xs → p x ≡ false
none_of p [] e x h = absurd h
none_of {A} p (y ∷ ys) e x h =
    elim (test (p y)) [
      | inl on ↦
          let fails : true ≡ false = rw on at e in absurd (true_is_not fails)
      | inr off ↦
          let later : list_any p ys ≡ false = rw off at e in
          elim h [
            | inl same ↦ subst (λ (z : A). p z ≡ false) (sym same) off
            | inr there ↦ none_of p ys later x there
          ]
    ]

-- ---- numbers of names

-- what is found is an element
pub found : (n : List ℕ) (ks : List Known) (x : ℤ × Bool) → known n ks ≡ Some x
    → (k : Known) × IsIn k ks × (k.name ≡ n) × (k.value ≡ x.0)
unfolding known
found n [] x e = absurd (some_is_not x (sym e))
found n (k ∷ ks) x e =
    elim (test (bytes_eq k.name n)) [
      | inl on ↦
          let here : Some (k.value, k.by_const) ≡ Some x = rw on at e in
          (k, inl refl, (bytes_eq-Decides k.name n).0 on, ap (λ (y : ℤ × Bool). y.0) (some_is _ x here))
      | inr off ↦
          let later : known n ks ≡ Some x = rw off at e in
          let r = found n ks x later in (r.0, inr r.1, r.2, r.3)
    ]

-- an element is found by its name, or another with that name
pub is_known : (ks : List Known) (k : Known) → IsIn k ks → known k.name ks ≡ None → ⊥
unfolding known
is_known [] k h e = h
is_known (x ∷ ks) k h e =
    elim (test (bytes_eq x.name k.name)) [
      | inl on ↦
          let fails : Some (x.value, x.by_const) ≡ None = rw on at e in some_is_not _ fails
      | inr off ↦
          let later : known k.name ks ≡ None = rw off at e in
          elim h [
            | inl same ↦
                let names : x.name ≡ k.name = ap (λ (y : Known). y.name) (sym same) in
                true_is_not (sym ((bytes_eq-Decides x.name k.name).1 names) ∙ off)
            | inr there ↦ is_known ks k there later
          ]
    ]

pub is_that : (v : ℤ) (o : Option (ℤ × Bool)) → is_number v o ≡ true → (x : ℤ × Bool) × (o ≡ Some x) × (v ≡ x.0)
is_that v None e = absurd cc
is_that v (Some x) e = (x, refl, same_number v x.0 e)

pub is_not_that : (v : ℤ) (o : Option (ℤ × Bool)) (x : ℤ × Bool) → o ≡ Some x → v ≡ x.0 → is_number v o ≡ false → ⊥
is_not_that v o x e same fails =
    let holds : is_number v (Some (v, x.1)) ≡ true = rw (least_itself v) refl in
    let here : o ≡ Some (v, x.1) = e ∙ ap (λ (z : ℤ). Some (z, x.1)) (sym same) in
    true_is_not (sym holds ∙ (ap (is_number v) (sym here) ∙ fails))

pub none_or_some : {A : Type 0} (o : Option A) → (o ≡ None) ⊎ ((a : A) × (o ≡ Some a))
none_or_some None = inl refl
none_or_some (Some a) = inr (a, refl)

-- ---- what the text gives

abbrev pub number_known : List ℕ → ℤ → Known
number_known n v = record { name = n; value = v; by_const = true }

two_fronts : (t u : Lexeme) (ts us : List Lexeme) → t ≡ u → ts ≡ us → t ∷ ts ≡ u ∷ us
two_fronts t u ts us e f = ap (λ (x : Lexeme). x ∷ ts) e ∙ ap (λ (xs : List Lexeme). u ∷ xs) f

plain_one : (t : Lexeme) (inside : List Lexeme) → is_sign mark.OpenRound t ≡ false → is_sign mark.CloseRound t ≡ false
    → list_any is_round inside ≡ false → list_any is_round (t ∷ inside) ≡ false
plain_one t inside a b c = rw (a, b) c

-- what is read behind = in front
abbrev pub value_given : {A : Type 0} → (List Lexeme → Option A) → List Lexeme → Option A
value_given read ts = if first_is (is_sign mark.Equal) ts then read (rest ts) else None

-- what is read of tokens is the token in front
abbrev pub Reads : {A : Type 0} → (List Lexeme → Option A) → (A → Lexeme) → Type 0
Reads {A} read make = (ts : List Lexeme) (a : A) → read ts ≡ Some a → (behind : List Lexeme) × (ts ≡ make a ∷ behind)

reads_numbers : Reads number_in (λ v. Number v)
reads_numbers [] v e = absurd (some_is_not v (sym e))
reads_numbers (Word w ∷ ts) v e = absurd (some_is_not v (sym e))
reads_numbers (Name n ∷ ts) v e = absurd (some_is_not v (sym e))
reads_numbers (Number n ∷ ts) v e = (ts, ap (λ (z : ℤ). Number z ∷ ts) (some_is n v e))
reads_numbers (Sign m ∷ ts) v e = absurd (some_is_not v (sym e))

pub reads_names : Reads name_in_front (λ m. Name m)
reads_names [] m e = absurd (some_is_not m (sym e))
reads_names (Word w ∷ ts) m e = absurd (some_is_not m (sym e))
reads_names (Name n ∷ ts) m e = (ts, ap (λ (z : List ℕ). Name z ∷ ts) (some_is n m e))
reads_names (Number n ∷ ts) m e = absurd (some_is_not m (sym e))
reads_names (Sign k ∷ ts) m e = absurd (some_is_not m (sym e))

-- it is given in front
given_front : {A : Type 0} (read : List Lexeme → Option A) (make : A → Lexeme) → Reads read make
    → (ts : List Lexeme) (a : A) → value_given read ts ≡ Some a
    → (behind : List Lexeme) × (ts ≡ equal ∷ make a ∷ behind)
given_front read make reads [] a e = absurd (some_is_not a (sym e))
given_front read make reads (t ∷ ts) a e =
    elim (test (is_sign mark.Equal t)) [
      | inl on ↦
          let front : read ts ≡ Some a = rw on at e in
          let r = reads ts a front in (r.0, two_fronts t equal ts (make a ∷ r.0) (sign_of mark.Equal t on) r.1)
      | inr off ↦
          let fails : None ≡ Some a = rw off at e in absurd (some_is_not a (sym fails))
    ]

-- it is given behind arguments
abbrev IsBehind : {A : Type 0} → (A → Lexeme) → List Lexeme → A → Type 0
IsBehind make ts a =
    (inside : List Lexeme) × (behind : List Lexeme) × (list_any is_round inside ≡ false)
    × (ts ≡ inside ++ Sign mark.CloseRound ∷ equal ∷ make a ∷ behind)

one_more_inside : {A : Type 0} (make : A → Lexeme) (t : Lexeme) (ts : List Lexeme) (a : A)
    → is_sign mark.OpenRound t ≡ false → is_sign mark.CloseRound t ≡ false → IsBehind make ts a
    → IsBehind make (t ∷ ts) a
one_more_inside make t ts a opens closes r =
    (t ∷ r.0, r.1, plain_one t r.0 opens closes r.2, ap (λ (us : List Lexeme). t ∷ us) r.3)

given_behind : {A : Type 0} (read : List Lexeme → Option A) (make : A → Lexeme) → Reads read make
    → (ts : List Lexeme) (a : A) → value_given read (behind_arguments ts) ≡ Some a
    → IsBehind make ts a
unfolding behind_arguments
given_behind read make reads [] a e = absurd (some_is_not a (sym e))
given_behind read make reads (t ∷ ts) a e =
    elim (test (is_sign mark.CloseRound t)) [
      | inl closes ↦
          let front : value_given read ts ≡ Some a = rw closes at e in
          let r = given_front read make reads ts a front in (
            [],
            r.0,
            refl,
            two_fronts t (Sign mark.CloseRound) ts (equal ∷ make a ∷ r.0) (sign_of mark.CloseRound t closes) r.1,
          )
      | inr other ↦ elim (test (is_sign mark.OpenRound t)) [
        | inl opens ↦
            let here : value_given read (t ∷ ts) ≡ Some a = rw (other, opens) at e in
            let round : value_given read (Sign mark.OpenRound ∷ ts) ≡ Some a =
            subst (λ (x : Lexeme). value_given read (x ∷ ts) ≡ Some a) (sign_of mark.OpenRound t opens) here in
            absurd (some_is_not a (sym round))
        | inr plain ↦
            let later : value_given read (behind_arguments ts) ≡ Some a = rw (other, plain) at e in
            one_more_inside make t ts a plain other (given_behind read make reads ts a later)
      ]
    ]

-- behind a name
pub given_by_name : {A : Type 0} (read : List Lexeme → Option A) (make : A → Lexeme) → Reads read make
    → (ts : List Lexeme) (a : A) → value_given read (behind_name ts) ≡ Some a
    → (args : List Lexeme) × (behind : List Lexeme) × AreArguments args × (ts ≡ args ++ equal ∷ make a ∷ behind)
given_by_name read make reads [] a e = absurd (some_is_not a (sym e))
given_by_name read make reads (t ∷ ts) a e =
    elim (test (is_sign mark.OpenRound t)) [
      | inl opens ↦
          let later : value_given read (behind_arguments ts) ≡ Some a = rw opens at e in
          let r = given_behind read make reads ts a later in (
            Sign mark.OpenRound ∷ r.0 ++ Sign mark.CloseRound ∷ [],
            r.1,
            inr (r.0, r.2, refl),
            two_fronts t (Sign mark.OpenRound) ts _ (sign_of mark.OpenRound t opens)
                (r.3 ∙ sym (append_assoc r.0 (Sign mark.CloseRound ∷ []) (equal ∷ make a ∷ r.1))),
          )
      | inr plain ↦
          let here : value_given read (t ∷ ts) ≡ Some a = rw plain at e in
          let r = given_front read make reads (t ∷ ts) a here in ([], r.0, inl refl, r.1)
    ]

one_more : (t : Lexeme) (ts : List Lexeme) (n : List ℕ) (v : ℤ) → Gives ts n v → Gives (t ∷ ts) n v
one_more t ts n v g = record {
  before = t ∷ g.before;
  arguments = g.arguments;
  behind = g.behind;
  are_arguments = g.are_arguments;
  split = ap (λ (us : List Lexeme). t ∷ us) g.split;
}

in_front : (n : List ℕ) (ts : List Lexeme) (v : ℤ) → number_given (behind_name ts) ≡ Some v → Gives (Name n ∷ ts) n v
in_front n ts v e =
    let r = given_by_name number_in (λ z. Number z) reads_numbers ts v e in record {
      before = [];
      arguments = r.0;
      behind = r.1;
      are_arguments = r.2;
      split = ap (λ (us : List Lexeme). Name n ∷ us) r.3;
    }

by_name : (n : List ℕ) (ts : List Lexeme) (k : Known) (o : Option ℤ) → number_given (behind_name ts) ≡ o
    → IsIn k (with_first (option_map (number_known n) o) (given ts)) → (IsIn k (given ts) → Gives ts k.name k.value)
    → Gives (Name n ∷ ts) k.name k.value
by_name n ts k None e h later = one_more (Name n) ts k.name k.value (later h)
by_name n ts k (Some v) e h later =
    elim h [
      | inl same ↦
          subst (λ (x : Known). Gives (Name n ∷ ts) x.name x.value) (sym same) (in_front n ts v e)
      | inr there ↦ one_more (Name n) ts k.name k.value (later there)
    ]

-- an element has a number that the text gives it
pub gives : (ts : List Lexeme) (k : Known) → IsIn k (given ts) → Gives ts k.name k.value
unfolding given
gives [] k h = absurd h
gives (Word w ∷ ts) k h = one_more (Word w) ts k.name k.value (gives ts k h)
gives (Name n ∷ ts) k h = by_name n ts k (number_given (behind_name ts)) refl h (gives ts k)
gives (Number n ∷ ts) k h = one_more (Number n) ts k.name k.value (gives ts k h)
gives (Sign m ∷ ts) k h = one_more (Sign m) ts k.name k.value (gives ts k h)

-- so has what is found
pub gives_found : (ts : List Lexeme) (n : List ℕ) (x : ℤ × Bool) → known n (given ts) ≡ Some x → Gives ts n x.0
gives_found ts n x e =
    let r = found n (given ts) x e in
    subst (λ (m : List ℕ). Gives ts m x.0) r.2 (subst (λ (v : ℤ). Gives ts r.0.name v) r.3 (gives ts r.0 r.1))

skipped : (inside behind : List Lexeme) → list_any is_round inside ≡ false
    → behind_arguments ((inside ++ Sign mark.CloseRound ∷ []) ++ behind) ≡ behind
unfolding behind_arguments
skipped [] behind h = refl
skipped (t ∷ inside) behind h =
    let each = neither (is_sign mark.OpenRound t) (is_sign mark.CloseRound t) (list_any is_round inside) h in
    rw (each.1, each.0) (skipped inside behind each.2)

-- what is given behind a name and its arguments is the token behind =
pub given_token : {A : Type 0} (read : List Lexeme → Option A) (args : List Lexeme) (t : Lexeme) (behind : List Lexeme)
    → AreArguments args → value_given read (behind_name (args ++ equal ∷ t ∷ behind)) ≡ read (t ∷ behind)
given_token read args t behind a =
    elim a [
      | inl none ↦ rw none refl
      | inr some ↦ rw (some.2, skipped some.0 (equal ∷ t ∷ behind) some.1) refl
    ]

among_more : (o : Option Known) (k : Known) (ks : List Known) → IsIn k ks → IsIn k (with_first o ks)
among_more None k ks h = h
among_more (Some x) k ks h = inr h

in_given : (before : List Lexeme) (n : List ℕ) (args : List Lexeme) (v : ℤ) (behind : List Lexeme) → AreArguments args
    → IsIn (number_known n v) (given (before ++ Name n ∷ (args ++ equal ∷ Number v ∷ behind)))
unfolding given
in_given [] n args v behind a =
    let rest = args ++ equal ∷ Number v ∷ behind in
    subst (λ (o : Option ℤ). IsIn (number_known n v) (with_first (option_map (number_known n) o) (given rest)))
    (sym (given_token number_in args (Number v) behind a)) (inl refl)
in_given (t ∷ before) n args v behind a =
    let rest = before ++ Name n ∷ (args ++ equal ∷ Number v ∷ behind) in
    among_more (given_by t rest) (number_known n v) (given rest) (in_given before n args v behind a)

-- what the text gives is an element
pub is_given : (ts : List Lexeme) (n : List ℕ) (v : ℤ) → Gives ts n v → IsIn (number_known n v) (given ts)
is_given ts n v g =
    subst (λ (us : List Lexeme). IsIn (number_known n v) (given us)) (sym g.split)
    (in_given g.before n g.arguments v g.behind g.are_arguments)

-- ---- names with two numbers

pub none_clashes : (ts : List Lexeme) → NoneHasTwo ts → list_any (clashes (given ts)) (given ts) ≡ false
none_clashes ts one =
    let ks = given ts in
    elim (test (list_any (clashes ks) ks)) [
      | inl holds ↦
          let c = any_of (clashes ks) ks holds in
          elim (none_or_some (known c.0.name ks)) [
            | inl none ↦ absurd (is_known ks c.0 c.1 none)
            | inr some ↦ absurd (is_not_that c.0.value (known c.0.name ks) some.0 some.1
                (one c.0.name c.0.value some.0.0 (gives ts c.0 c.1) (gives_found ts c.0.name some.0 some.1))
                (is_false (is_number c.0.value (known c.0.name ks)) c.2))
          ]
      | inr fails ↦ fails
    ]

pub alone : (ts : List Lexeme) → list_any (clashes (given ts)) (given ts) ≡ false → NoneHasTwo ts
alone ts fails n u v a b =
    let ks = given ts in
    let first = is_that u (known n ks) (is_true (is_number u (known n ks))
    (none_of (clashes ks) ks fails (number_known n u) (is_given ts n u a))) in
    let second = is_that v (known n ks) (is_true (is_number v (known n ks))
    (none_of (clashes ks) ks fails (number_known n v) (is_given ts n v b))) in
    let same : first.0 ≡ second.0 = some_is first.0 second.0 (sym first.1 ∙ second.1) in
    first.2 ∙ (ap (λ (x : ℤ × Bool). x.0) same ∙ sym second.2)

pub some_clash : (ts : List Lexeme) → (NoneHasTwo ts → ⊥) → list_any (clashes (given ts)) (given ts) ≡ true
some_clash ts two =
    elim (test (list_any (clashes (given ts)) (given ts))) [
      | inl holds ↦ holds
      | inr fails ↦ absurd (two (alone ts fails))
    ]
