-- What a name stands for, said of a whole text.
use Rattle.std.proofs.Common.{◌≡◌, ℕ, zero, suc, ℤ, Bool, true, false, not, List, [], ◌∷◌, ◌++◌, length}
use Rattle.std.proofs.Common.{Option, Some, None, option_map, slice_get, refl, sym, ap, subst, ◌∙◌, inl, inr}
use Rattle.std.proofs.lemmas.Bool.{cases_Bool as test}
use Rattle.xdr_tokens.specs.declared.token.Mark.TheVariants as mark
use Rattle.xdr_tokens.specs.Tokens.{Lexeme, Word, Name, Number, Sign}
use Rattle.xdr_tokens.proofs.Options.{some_is_not}
use Rattle.xdr_dialect.specs.Tests.{is_sign, is_name, first_is}
use Rattle.xdr_constants.specs.Constants.{Known, known}
use Rattle.xdr_aliases.specs.Aliases.{behind_name, name_given, given, apart, number_named, with_last, followed_one}
use Rattle.xdr_aliases.specs.Aliases.{followed, has_clash, number_or, valued, resolved_from, resolved}
use Rattle.xdr_aliases.specs.Numbered.{equal, semicolon, Gives, StandsFor, by_number, NoneHasTwo, NoneStandsForTwo}
use Rattle.xdr_aliases.specs.Numbered.{with_name, Becomes, NamesAre, OthersStay}
use Rattle.xdr_aliases.proofs.Giving.{IsIn, is_known, none_or_some, number_known, gives, gives_found, is_given}
use Rattle.xdr_aliases.proofs.Giving.{none_clashes, some_clash}
use Rattle.xdr_aliases.proofs.Following.{table_at, table_start, table_off, stands_at, no_clash, is_there, has}
use Rattle.xdr_aliases.proofs.Following.{none_stands}

-- ---- what stands at a place

behind_one : (f : Bool) (ks : List Known) (value : Bool) (before : List Lexeme) (u t : Lexeme) (behind : List Lexeme)
    → slice_get (resolved_from f ks value (before ++ u ∷ t ∷ behind)) (suc (length before))
    ≡ Some (valued (table_at f ks (before ++ u ∷ t ∷ behind) (suc (length before))) (is_sign mark.Equal u) t behind)
unfolding resolved_from
behind_one f ks value [] u t behind = refl
behind_one f ks value (b ∷ before) u t behind =
    behind_one f (followed_one f ks b (before ++ u ∷ t ∷ behind)) (is_sign mark.Equal b) before u t behind

at_place : (f : Bool) (ks : List Known) (value : Bool) (before : List Lexeme) (t : Lexeme) (behind : List Lexeme)
    → (table : List Known) × (is_value : Bool)
    × (slice_get (resolved_from f ks value (before ++ t ∷ behind)) (length before)
    ≡ Some (valued table is_value t behind))
unfolding resolved_from
at_place f ks value [] t behind = (ks, value, refl)
at_place f ks value (b ∷ before) t behind =
    at_place f (followed_one f ks b (before ++ t ∷ behind)) (is_sign mark.Equal b) before t behind

no_name_stays : (ks : List Known) (value : Bool) (t : Lexeme) (behind : List Lexeme) → is_name t ≡ false
    → valued ks value t behind ≡ t
no_name_stays ks value (Word w) behind h = refl
no_name_stays ks value (Name n) behind h = absurd cc
no_name_stays ks value (Number n) behind h = refl
no_name_stays ks value (Sign m) behind h = refl

no_end_stays : (ks : List Known) (value : Bool) (t : Lexeme) (behind : List Lexeme)
    → first_is (is_sign mark.Semicolon) behind ≡ false → valued ks value t behind ≡ t
no_end_stays ks value (Word w) behind h = refl
no_end_stays ks true (Name n) behind h = rw h refl
no_end_stays ks false (Name n) behind h = refl
no_end_stays ks value (Number n) behind h = refl
no_end_stays ks value (Sign m) behind h = refl

no_value_stays : (ks : List Known) (t : Lexeme) (behind : List Lexeme) → valued ks false t behind ≡ t
no_value_stays ks (Word w) behind = refl
no_value_stays ks (Name n) behind = refl
no_value_stays ks (Number n) behind = refl
no_value_stays ks (Sign m) behind = refl

unknown_stays : (value : Bool) (t : Lexeme) (behind : List Lexeme) → valued [] value t behind ≡ t
unfolding known
unknown_stays value (Word w) behind = refl
unknown_stays true (Name n) behind =
    elim (test (first_is (is_sign mark.Semicolon) behind)) [
      | inl on ↦ rw on refl
      | inr off ↦ rw off refl
    ]
unknown_stays false (Name n) behind = refl
unknown_stays value (Number n) behind = refl
unknown_stays value (Sign m) behind = refl

-- where no name has a number, none has one by a name
none_named : (o : Option (List ℕ)) → number_named [] o ≡ None
unfolding known
none_named None = refl
none_named (Some m) = refl

none_follows : (f : Bool) (t : Lexeme) (ts : List Lexeme) → followed_one f [] t ts ≡ []
none_follows false t ts = refl
none_follows true (Word w) ts = refl
none_follows true (Name n) ts =
    ap (λ (o : Option ℤ). with_last [] (option_map (number_known n) o)) (none_named (name_given (behind_name ts)))
none_follows true (Number n) ts = refl
none_follows true (Sign m) ts = refl

all_stay : (f value : Bool) (ts : List Lexeme) → resolved_from f [] value ts ≡ ts
unfolding resolved_from
all_stay f value [] = refl
all_stay f value (t ∷ ts) =
    rw (unknown_stays value t ts, none_follows f t ts)
    (ap (λ (us : List Lexeme). t ∷ us) (all_stay f (is_sign mark.Equal t) ts))

as_many : (f : Bool) (ks : List Known) (value : Bool) (ts : List Lexeme)
    → length (resolved_from f ks value ts) ≡ length ts
unfolding resolved_from
as_many f ks value [] = refl
as_many f ks value (t ∷ ts) =
    ap (λ (n : ℕ). suc n) (as_many f (followed_one f ks t ts) (is_sign mark.Equal t) ts)

-- ---- which names are followed

-- they are, unless one has two numbers then
abbrev follows : List Lexeme → Bool
follows ts = not (has_clash (followed true (apart (given ts)) ts))

-- what the text gives to names, where no name has two numbers
apart_gives : (ts : List Lexeme) (k : Known) → IsIn k (apart (given ts)) → Gives ts k.name k.value
apart_gives ts k h =
    elim (test (has_clash (given ts))) [
      | inl two ↦
          let none : IsIn k [] = rw two at h in absurd none
      | inr fails ↦
          let there : IsIn k (given ts) = rw fails at h in gives ts k there
    ]

all_apart : (ts : List Lexeme) → has_clash (given ts) ≡ false → apart (given ts) ≡ given ts
all_apart ts fails = rw fails refl

-- so what is known is given
known_gives : (ts : List Lexeme) (n : List ℕ) (x : ℤ × Bool) → known n (apart (given ts)) ≡ Some x → Gives ts n x.0
unfolding known
known_gives ts n x e =
    elim (test (has_clash (given ts))) [
      | inl two ↦
          let fails : None ≡ Some x = rw two at e in absurd (some_is_not x (sym fails))
      | inr one ↦
          let here : known n (given ts) ≡ Some x = rw one at e in gives_found ts n x here
    ]

-- where no name has a number, none has one anywhere
nothing_at : (f : Bool) (ts : List Lexeme) (p : ℕ) → table_at f [] ts p ≡ []
nothing_at f ts zero = refl
nothing_at f [] (suc p) = refl
nothing_at f (t ∷ ts) (suc p) =
    ap (λ (ks : List Known). table_at f ks ts p) (none_follows f t ts) ∙ nothing_at f ts p

known_nowhere : (f : Bool) (ts : List Lexeme) (p : ℕ) (n : List ℕ) (x : ℤ × Bool)
    → known n (table_at f [] ts p) ≡ Some x → ⊥
unfolding known
known_nowhere f ts p n x e = some_is_not x (sym (ap (known n) (sym (nothing_at f ts p)) ∙ e))

-- what a name between = and ; becomes, by the names with their numbers
becomes : (before : List Lexeme) (n : List ℕ) (behind : List Lexeme) (f : Bool) (ks : List Known)
    → follows (with_name before n behind) ≡ f → apart (given (with_name before n behind)) ≡ ks
    → Becomes before n behind (number_or n (known n (table_at f ks (with_name before n behind) (suc (length before)))))
becomes before n behind f ks is_f is_ks =
    let ts = with_name before n behind in
    let here = behind_one (follows ts) (apart (given ts)) false before equal (Name n) (semicolon ∷ behind) in
    subst (λ (xs : List Known). Becomes before n behind
    (number_or n (known n (table_at f xs ts (suc (length before)))))) is_ks
    (subst (λ (g : Bool). Becomes before n behind
    (number_or n (known n (table_at g (apart (given ts)) ts (suc (length before)))))) is_f here)

becomes_number : (before : List Lexeme) (n : List ℕ) (behind : List Lexeme) (o : Option (ℤ × Bool)) (x : ℤ × Bool)
    (v : ℤ) → Becomes before n behind (number_or n o) → o ≡ Some x → x.0 ≡ v → Becomes before n behind (Number v)
becomes_number before n behind o x v here is same =
    here ∙ (ap (λ (p : Option (ℤ × Bool)). Some (number_or n p)) is ∙ ap (λ (z : ℤ). Some (Number z)) same)

becomes_name : (before : List Lexeme) (n : List ℕ) (behind : List Lexeme) (o : Option (ℤ × Bool))
    → Becomes before n behind (number_or n o) → ((x : ℤ × Bool) → o ≡ Some x → ⊥) → Becomes before n behind (Name n)
becomes_name before n behind o here none =
    elim (none_or_some o) [
      | inl is ↦ here ∙ ap (λ (p : Option (ℤ × Bool)). Some (number_or n p)) is
      | inr some ↦ absurd (none some.0 some.1)
    ]

-- ---- the laws

numbered : (before : List Lexeme) (n : List ℕ) (v : ℤ) (behind : List Lexeme) → NoneHasTwo (with_name before n behind)
    → Gives (with_name before n behind) n v → Becomes before n behind (Number v)
numbered before n v behind one g =
    let ts = with_name before n behind in
    let here = becomes before n behind (follows ts) (given ts) refl (all_apart ts (none_clashes ts one)) in
    elim (none_or_some (known n (given ts))) [
      | inl none ↦ absurd (is_known (given ts) (number_known n v) (is_given ts n v g) none)
      | inr some ↦
          becomes_number before n behind (known n (table_at (follows ts) (given ts) ts (suc (length before)))) some.0 v
          here (table_start (follows ts) (given ts) ts (suc (length before)) n some.0 some.1)
          (one n some.0.0 v (gives_found ts n some.0 some.1) g)
    ]

named : (before : List Lexeme) (n : List ℕ) (v : ℤ) (behind : List Lexeme)
    → NoneStandsForTwo (with_name before n behind)
    → StandsFor (with_name before n behind) (suc (length before)) n v → Becomes before n behind (Number v)
named before n v behind one stands =
    let ts = with_name before n behind in
    let place = suc (length before) in
    let two : NoneHasTwo ts = λ m a b g h. one m a b (by_number (length ts) m a g) (by_number (length ts) m b h) in
    let all = all_apart ts (none_clashes ts two) in
    let fails = no_clash ts (given ts) (gives ts) one in
    let on : follows ts ≡ true = ap (λ (ks : List Known). not (has_clash (followed true ks ts))) all ∙ ap not fails in
    let table = table_at true (given ts) ts place in
    let there = has ts fails place n v stands in
    elim (none_or_some (known n table)) [
      | inl none ↦ absurd (is_known table (number_known n v) there none)
      | inr some ↦
          let here = becomes before n behind true (given ts) on all in
          becomes_number before n behind (known n table) some.0 v here some.1
          (is_there (given ts) ts fails place n v some.0 there some.1)
    ]

unnumbered : (before : List Lexeme) (n : List ℕ) (behind : List Lexeme)
    → ((v : ℤ) → StandsFor (with_name before n behind) (suc (length before)) n v → ⊥)
    → Becomes before n behind (Name n)
unnumbered before n behind none =
    let ts = with_name before n behind in
    let place = suc (length before) in
    becomes_name before n behind (known n (table_at (follows ts) (apart (given ts)) ts place))
    (becomes before n behind (follows ts) (apart (given ts)) refl refl)
    (λ x e. none x.0 (stands_at (follows ts) ts (apart (given ts)) (apart_gives ts) place n x e))

two_numbers : (ts : List Lexeme) → (NoneHasTwo ts → ⊥) → resolved ts ≡ ts
two_numbers ts two =
    let none : apart (given ts) ≡ [] = rw (some_clash ts two) refl in
    subst (λ (ks : List Known). resolved_from (follows ts) ks false ts ≡ ts) (sym none) (all_stay (follows ts) false ts)

two_by_names : (before : List Lexeme) (n : List ℕ) (behind : List Lexeme)
    → (NoneStandsForTwo (with_name before n behind) → ⊥)
    → ((v : ℤ) → Gives (with_name before n behind) n v → ⊥) → Becomes before n behind (Name n)
two_by_names before n behind two none =
    let ts = with_name before n behind in
    let place = suc (length before) in
    elim (test (has_clash (followed true (apart (given ts)) ts))) [
      | inl clash ↦
          let table = table_at false (apart (given ts)) ts place in
          becomes_name before n behind (known n table)
          (becomes before n behind false (apart (given ts)) (ap not clash) refl)
          (λ x e. none x.0 (known_gives ts n x (ap (known n) (sym (table_off (apart (given ts)) ts place)) ∙ e)))
      | inr fails ↦ elim (test (has_clash (given ts))) [
        | inl many ↦
            let empty : apart (given ts) ≡ [] = rw many refl in
            becomes_name before n behind (known n (table_at (follows ts) [] ts place))
            (becomes before n behind (follows ts) [] refl empty)
            (λ x e. known_nowhere (follows ts) ts place n x e)
        | inr one ↦
            let all = all_apart ts one in
            absurd (two (none_stands ts (ap (λ (ks : List Known). has_clash (followed true ks ts)) (sym all) ∙ fails)))
      ]
    ]

pub names_are : NamesAre
names_are = record {
  numbered = numbered;
  named = named;
  unnumbered = unnumbered;
  two_numbers = two_numbers;
  two_by_names = two_by_names;
}

pub others_stay : OthersStay
unfolding resolved_from
others_stay = record {
  no_name = λ before t behind h.
      let ts = before ++ t ∷ behind in
      let r = at_place (follows ts) (apart (given ts)) false before t behind in
      r.2 ∙ ap (λ (x : Lexeme). Some x) (no_name_stays r.0 r.1 t behind h);
  no_end = λ before t behind h.
      let ts = before ++ t ∷ behind in
      let r = at_place (follows ts) (apart (given ts)) false before t behind in
      r.2 ∙ ap (λ (x : Lexeme). Some x) (no_end_stays r.0 r.1 t behind h);
  no_equal = λ before u t behind h.
      let ts = before ++ u ∷ t ∷ behind in
      let table = table_at (follows ts) (apart (given ts)) ts (suc (length before)) in
      behind_one (follows ts) (apart (given ts)) false before u t behind
      ∙ (ap (λ (b : Bool). Some (valued table b t behind)) h
      ∙ ap (λ (x : Lexeme). Some x) (no_value_stays table t behind));
  first = λ t behind. ap (λ (x : Lexeme). Some x) (no_value_stays (apart (given (t ∷ behind))) t behind);
  as_many = λ ts. as_many (follows ts) (apart (given ts)) false ts;
}
