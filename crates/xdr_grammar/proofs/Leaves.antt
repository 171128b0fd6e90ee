-- What is taken from the front stands there, and what stands there is taken.
use Rattle.std.proofs.Common.{◌≡◌, ℕ, ℤ, Bool, true, false, cond, eqb, List, [], ◌∷◌, get_or, Option, Some, None}
use Rattle.std.proofs.Common.{option_map, ◌⊎◌, inl, inr, refl, sym, ap, subst, ◌∙◌}
use Rattle.std.proofs.lemmas.Bool.{eqb-true}
use Rattle.xdr_tokens.specs.declared.token.Keyword.{Keyword}
use Rattle.xdr_tokens.specs.declared.token.Keyword.TheVariants as word
use Rattle.xdr_tokens.specs.declared.token.Mark.{Mark}
use Rattle.xdr_tokens.specs.declared.token.Mark.TheVariants as mark
use Rattle.xdr_tokens.specs.Tokens.{Lexeme, Word, Name, Number, Sign}
use Rattle.xdr_tokens.proofs.Options.{some_is, bind_some}
use Rattle.xdr_grammar.specs.Tree.{Value, Literal, Constant}
use Rattle.xdr_grammar.specs.Grammar.{value, limit}
use Rattle.xdr_grammar.specs.Outline.{Outline, Late, late}
use Rattle.xdr_grammar.specs.Private.Taking.{taken, word_number, mark_number, after_word, after_sign, name_at}
use Rattle.xdr_grammar.specs.Private.Taking.{number_at, value_at, size_at, limit_at, either_sign, numbered_at}
use Rattle.xdr_tokens.specs.Keywords.{keywords as words}
use Rattle.xdr_tokens.specs.Text.{marks}

-- which way it went
pub taken_some : {A B : Type 0} (o : Option A) (f : A → B) (b y : B) → taken o f b ≡ y
    → ((a : A) × (o ≡ Some a) × (f a ≡ y)) ⊎ ((o ≡ None) × (b ≡ y))
taken_some (Some a) f b y e = inl (a, refl, e)
taken_some None f b y e = inr (refl, e)

word_back : (w : Keyword) → get_or words (word_number w) word.Bool ≡ w
word_back word.Bool = refl
word_back word.Case = refl
word_back word.Const = refl
word_back word.Default = refl
word_back word.Double = refl
word_back word.Enum = refl
word_back word.Float = refl
word_back word.Hyper = refl
word_back word.Int = refl
word_back word.Long = refl
word_back word.Opaque = refl
word_back word.Program = refl
word_back word.Quadruple = refl
word_back word.String = refl
word_back word.Struct = refl
word_back word.Switch = refl
word_back word.Typedef = refl
word_back word.Union = refl
word_back word.Unsigned = refl
word_back word.Version = refl
word_back word.Void = refl

mark_back : (m : Mark) → get_or marks (mark_number m) mark.OpenBrace ≡ m
mark_back mark.OpenBrace = refl
mark_back mark.CloseBrace = refl
mark_back mark.OpenRound = refl
mark_back mark.CloseRound = refl
mark_back mark.OpenBracket = refl
mark_back mark.CloseBracket = refl
mark_back mark.Less = refl
mark_back mark.Greater = refl
mark_back mark.Equal = refl
mark_back mark.Comma = refl
mark_back mark.Semicolon = refl
mark_back mark.Colon = refl
mark_back mark.Star = refl

cond_some : {A : Type 0} (b : Bool) (x y : A) → cond b (Some x) None ≡ Some y → (b ≡ true) × (x ≡ y)
cond_some true x y e = (refl, cc)
cond_some false x y e = absurd cc

pub word_found : (w : Keyword) (ts rest : List Lexeme) → after_word w ts ≡ Some rest → ts ≡ Word w ∷ rest
unfolding after_word
word_found w [] rest e = absurd cc
word_found w (Word v ∷ ts) rest e =
    let g = cond_some (eqb (word_number v) (word_number w)) ts rest e in
    let same : v ≡ w = sym (word_back v) ∙ ap (λ n. get_or words n word.Bool) (eqb-true _ _ g.0) ∙ word_back w in
    let tail : ts ≡ rest = g.1 in
    cc
word_found w (Name n ∷ ts) rest e = absurd cc
word_found w (Number n ∷ ts) rest e = absurd cc
word_found w (Sign m ∷ ts) rest e = absurd cc

pub sign_found : (m : Mark) (ts rest : List Lexeme) → after_sign m ts ≡ Some rest → ts ≡ Sign m ∷ rest
unfolding after_sign
sign_found w [] rest e = absurd cc
sign_found w (Word v ∷ ts) rest e = absurd cc
sign_found w (Name n ∷ ts) rest e = absurd cc
sign_found w (Number n ∷ ts) rest e = absurd cc
sign_found w (Sign v ∷ ts) rest e =
    let g = cond_some (eqb (mark_number v) (mark_number w)) ts rest e in
    let same : v ≡ w = sym (mark_back v) ∙ ap (λ n. get_or marks n mark.OpenBrace) (eqb-true _ _ g.0) ∙ mark_back w in
    let tail : ts ≡ rest = g.1 in
    cc

pub name_found : (ts : List Lexeme) (y : List ℕ × List Lexeme) → name_at ts ≡ Some y → ts ≡ Name y.0 ∷ y.1
unfolding name_at
name_found [] y e = absurd cc
name_found (Word v ∷ ts) y e = absurd cc
name_found (Name m ∷ ts) y e = ap (λ (x : List ℕ × List Lexeme). Name x.0 ∷ x.1) (some_is (m, ts) y e)
name_found (Number m ∷ ts) y e = absurd cc
name_found (Sign m ∷ ts) y e = absurd cc

pub number_found : (ts : List Lexeme) (y : ℤ × List Lexeme) → number_at ts ≡ Some y → ts ≡ Number y.0 ∷ y.1
unfolding number_at
number_found [] y e = absurd cc
number_found (Word v ∷ ts) y e = absurd cc
number_found (Name m ∷ ts) y e = absurd cc
number_found (Number m ∷ ts) y e = ap (λ (x : ℤ × List Lexeme). Number x.0 ∷ x.1) (some_is (m, ts) y e)
number_found (Sign m ∷ ts) y e = absurd cc

pub numbered_found : (ts : List Lexeme) (y : ℤ × List Lexeme) → numbered_at ts ≡ Some y
    → ts ≡ Sign mark.Equal ∷ Number y.0 ∷ Sign mark.Semicolon ∷ y.1
unfolding numbered_at
numbered_found ts y e =
    let a = bind_some (after_sign mark.Equal ts) _ y e in
    let n = bind_some (number_at a.0) _ y a.2 in
    let s = bind_some (after_sign mark.Semicolon n.0.1) _ y n.2 in
    sign_found mark.Equal ts a.0 a.1
    ∙ ap (λ (x : List Lexeme). Sign mark.Equal ∷ x) (number_found a.0 n.0 n.1
    ∙ ap (λ (x : List Lexeme). Number n.0.0 ∷ x) (sign_found mark.Semicolon n.0.1 s.0 s.1))
    ∙ ap (λ (x : ℤ × List Lexeme). Sign mark.Equal ∷ Number x.0 ∷ Sign mark.Semicolon ∷ x.1)
    (some_is (n.0.0, s.0) y s.2)

pub numbered_again : (n : ℤ) (ts : List Lexeme)
    → numbered_at (Sign mark.Equal ∷ Number n ∷ Sign mark.Semicolon ∷ ts) ≡ Some (n, ts)
unfolding numbered_at after_sign number_at
numbered_again n ts = refl

pub either_found : (a b : Mark) (ts : List Lexeme) (y : Bool × List Lexeme) → either_sign a b ts ≡ Some y
    → ts ≡ Sign (cond y.0 a b) ∷ y.1
unfolding either_sign
either_found a b ts y e =
    elim (taken_some (after_sign a ts) _ _ _ e) [
      | inl h ↦ subst (λ (z : Bool × List Lexeme). ts ≡ Sign (cond z.0 a b) ∷ z.1) (some_is (true, h.0) y h.2)
          (sign_found a ts h.0 h.1)
      | inr n ↦
          let h = bind_some (after_sign b ts) _ y n.1 in
          subst (λ (z : Bool × List Lexeme). ts ≡ Sign (cond z.0 a b) ∷ z.1) (some_is (false, h.0) y h.2)
          (sign_found b ts h.0 h.1)
    ]

-- a value in front, followed by more
pub record IsValue (o : Outline) (ts : List Lexeme) (y : Late × List Lexeme) : Type 0 where
  pub tree : Value
  pub spelled : ts ≡ value tree ∷ y.1
  pub late : y.0 ≡ late o tree

with_value : (o : Outline) (ts : List Lexeme) (x y : Late × List Lexeme) → IsValue o ts x → Some x ≡ Some y
    → IsValue o ts y
with_value o ts x y h e = subst (λ (z : Late × List Lexeme). IsValue o ts z) (some_is x y e) h

pub value_found : (o : Outline) (ts : List Lexeme) (y : Late × List Lexeme) → value_at o ts ≡ Some y → IsValue o ts y
unfolding value_at
value_found o [] y e = absurd cc
value_found o (Word w ∷ ts) y e = absurd cc
value_found o (Name m ∷ ts) y e = with_value o (Name m ∷ ts) (late o (Constant m), ts) y
    (record { tree = Constant m; spelled = refl; late = refl }) e
value_found o (Number m ∷ ts) y e = with_value o (Number m ∷ ts) (late o (Literal m), ts) y
    (record { tree = Literal m; spelled = refl; late = refl }) e
value_found o (Sign m ∷ ts) y e = absurd cc

pub value_again : (o : Outline) (v : Value) (ts : List Lexeme) → value_at o (value v ∷ ts) ≡ Some (late o v, ts)
unfolding value_at
value_again o (Literal n) ts = refl
value_again o (Constant n) ts = refl

pub record IsSize (o : Outline) (ts : List Lexeme) (y : Late × List Lexeme) : Type 0 where
  pub tree : Value
  pub spelled : ts ≡ value tree ∷ Sign mark.CloseBracket ∷ y.1
  pub late : y.0 ≡ late o tree

pub size_found : (o : Outline) (ts : List Lexeme) (y : Late × List Lexeme) → size_at o ts ≡ Some y → IsSize o ts y
unfolding size_at
size_found o ts y e =
    let a = bind_some (value_at o ts) _ y e in
    let b = bind_some (after_sign mark.CloseBracket a.0.1) _ y a.2 in
    let v = value_found o ts a.0 a.1 in
    subst (λ (z : Late × List Lexeme). IsSize o ts z) (some_is (a.0.0, b.0) y b.2)
    (record {
      tree = v.tree;
      spelled = v.spelled
          ∙ ap (λ (x : List Lexeme). value v.tree ∷ x) (sign_found mark.CloseBracket a.0.1 b.0 b.1);
      late = v.late;
    })

pub size_again : (o : Outline) (v : Value) (ts : List Lexeme)
    → size_at o (value v ∷ Sign mark.CloseBracket ∷ ts) ≡ Some (late o v, ts)
unfolding size_at after_sign
size_again o v ts = rw (value_again o v (Sign mark.CloseBracket ∷ ts)) refl

no_greater : (v : Value) (ts : List Lexeme) → after_sign mark.Greater (value v ∷ ts) ≡ None
unfolding after_sign
no_greater (Literal n) ts = refl
no_greater (Constant n) ts = refl

pub record IsLimit (o : Outline) (ts : List Lexeme) (y : Option Late × List Lexeme) : Type 0 where
  pub tree : Option Value
  pub spelled : ts ≡ limit tree (Sign mark.Greater ∷ y.1)
  pub late : y.0 ≡ option_map (late o) tree

pub limit_found : (o : Outline) (ts : List Lexeme) (y : Option Late × List Lexeme) → limit_at o ts ≡ Some y
    → IsLimit o ts y
unfolding limit_at
limit_found o ts y e =
    elim (taken_some (after_sign mark.Greater ts) _ _ _ e) [
      | inl a ↦ subst (λ (z : Option Late × List Lexeme). IsLimit o ts z) (some_is (None, a.0) y a.2)
          (record { tree = None; spelled = sign_found mark.Greater ts a.0 a.1; late = refl })
      | inr n ↦
          let a = bind_some (value_at o ts) _ y n.1 in
          let b = bind_some (after_sign mark.Greater a.0.1) _ y a.2 in
          let v = value_found o ts a.0 a.1 in
          subst (λ (z : Option Late × List Lexeme). IsLimit o ts z) (some_is (Some a.0.0, b.0) y b.2)
          (record {
            tree = Some v.tree;
            spelled = v.spelled
                ∙ ap (λ (x : List Lexeme). value v.tree ∷ x) (sign_found mark.Greater a.0.1 b.0 b.1);
            late = ap (λ (x : Late). Some x) v.late;
          })
    ]

pub limit_again : (o : Outline) (v : Option Value) (ts : List Lexeme)
    → limit_at o (limit v (Sign mark.Greater ∷ ts)) ≡ Some (option_map (late o) v, ts)
unfolding limit_at after_sign
limit_again o None ts = refl
limit_again o (Some v) ts = rw (no_greater v (Sign mark.Greater ∷ ts), value_again o v (Sign mark.Greater ∷ ts)) refl
