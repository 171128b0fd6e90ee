-- White space is passed.
use Rattle.std.proofs.Common.{◌≡◌, ℕ, ◌+◌, Bool, true, false, ◌&&◌, List, [], ◌∷◌, ◌++◌, length, refl, ap, sym, ◌∙◌}
use Rattle.std.proofs.Common.{arith, true≢false}
use Rattle.std.specs.List.{list_all}
use Rattle.std.specs.Cmp.Derive.{both_true}
use Rattle.oncrpc_encode.specs.Arrays.{begins_with_space, is_space}
use Rattle.oncrpc_encode.specs.Private.Scanned.{past_spaces}

pub both_of : (a b : Bool) → (a && b) ≡ true → (a ≡ true) × (b ≡ true)
both_of true b e = (refl, e)
both_of false b e = absurd (true≢false (sym e))

-- the white space that begins here, and what is behind it
pub record Spaces (at : ℕ) (bs : List ℕ) : Type 0 where
  pub space : List ℕ
  pub rest : List ℕ
  pub blank : list_all is_space space ≡ true
  pub begins : begins_with_space rest ≡ false
  pub joined : bs ≡ space ++ rest
  pub place : past_spaces at bs ≡ at + length space

passed : (at b : ℕ) (bs : List ℕ) (v : Bool) → is_space b ≡ v → past_spaces at (b ∷ bs)
    ≡ elim v as (λ w. ℕ) [ true ↦ past_spaces (at + 1) bs | false ↦ at ]
unfolding past_spaces
passed at b bs v is = ap (λ (w : Bool). elim w as (λ u. ℕ) [ true ↦ past_spaces (at + 1) bs | false ↦ at ]) is

none_passed : (at : ℕ) → past_spaces at [] ≡ at + 0
unfolding past_spaces
none_passed at = omega arith

one_more : (at b : ℕ) (bs : List ℕ) → Spaces (at + 1) bs → (v : Bool) → is_space b ≡ v → Spaces at (b ∷ bs)
one_more at b bs more true is = record {
  space = b ∷ more.space;
  rest = more.rest;
  blank = both_true is more.blank;
  begins = more.begins;
  joined = ap (λ (z : List ℕ). b ∷ z) more.joined;
  place =
      let e : at + 1 + length more.space ≡ at + length (b ∷ more.space) = omega arith in
      passed at b bs true is ∙ more.place ∙ e;
}
one_more at b bs more false is = record {
  space = [];
  rest = b ∷ bs;
  blank = refl;
  begins = is;
  joined = refl;
  place = let e : at ≡ at + 0 = omega arith in passed at b bs false is ∙ e;
}

pub spaces : (at : ℕ) (bs : List ℕ) → Spaces at bs
spaces at [] =
    record { space = []; rest = []; blank = refl; begins = refl; joined = refl; place = none_passed at }
spaces at (b ∷ bs) = one_more at b bs (spaces (at + 1) bs) (is_space b) refl

pub spaces_end : (at : ℕ) (space rest : List ℕ) → list_all is_space space ≡ true → begins_with_space rest ≡ false
    → past_spaces at (space ++ rest) ≡ at + length space
spaces_end at [] [] blank begins = none_passed at
spaces_end at [] (b ∷ bs) blank begins =
    let e : at ≡ at + 0 = omega arith in passed at b bs false begins ∙ e
spaces_end at (b ∷ space) rest blank begins =
    let both = both_of (is_space b) (list_all is_space space) blank in
    let e : at + 1 + length space ≡ at + length (b ∷ space) = omega arith in
    passed at b (space ++ rest) true both.0 ∙ spaces_end (at + 1) space rest both.1 begins ∙ e
