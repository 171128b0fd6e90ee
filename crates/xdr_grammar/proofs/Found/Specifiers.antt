-- Soundness of type specifiers, with the bodies inside them.
use Rattle.std.proofs.Common.{◌≡◌, ℕ, zero, suc, ◌≤◌, List, ◌∷◌, Some, ◌⊎◌, inl, inr, refl, ap, subst, ◌∙◌, arith}
use Rattle.xdr_tokens.specs.declared.token.Keyword.TheVariants as word
use Rattle.xdr_grammar.specs.declared.outline.Basic.TheVariants as basic
use Rattle.xdr_grammar.specs.declared.outline.BodyKind.{BodyKind}
use Rattle.xdr_grammar.specs.declared.outline.BodyKind.TheVariants as kind
use Rattle.xdr_tokens.specs.Tokens.{Lexeme, Word}
use Rattle.xdr_grammar.specs.Tree.{Specifier, Plain, Long, UnsignedLong, Named, StructNamed, Inline, depth_of_specifier}
use Rattle.xdr_grammar.specs.Grammar.{body_word, specifier}
use Rattle.xdr_grammar.specs.Outline.{Part, Field, Outline, specifier_in}
use Rattle.xdr_tokens.specs.Options.{◌>>=◌}
use Rattle.xdr_grammar.specs.Private.Taking.{after_word, name_at}
use Rattle.xdr_grammar.specs.Private.Reading.{Reader, declaration_with, content_with, int_at, basic_at, body_word_at}
use Rattle.xdr_grammar.specs.Private.Reading.{inner_word_at, body_with, specifier_at}
use Rattle.xdr_tokens.proofs.Options.{bind_some, some_is}
use Rattle.xdr_grammar.proofs.Rows.{with_found}
use Rattle.xdr_grammar.proofs.Leaves.{taken_some, word_found, name_found}
use Rattle.xdr_grammar.proofs.Found.Declarations.{IsSpecifier, FindsSpecifiers, FindsDeclarations, declaration_found}
use Rattle.xdr_grammar.proofs.Found.Declarations.{content_found}
use Rattle.xdr_grammar.proofs.Found.Bodies.{word_of, IsBody, enum_found, struct_found}
use Rattle.xdr_grammar.proofs.Found.Unions.{union_found}

int_found : (ts rest : List Lexeme) → int_at ts ≡ Some rest
    → (ts ≡ Word word.Int ∷ rest) ⊎ (ts ≡ Word word.Long ∷ rest)
unfolding int_at
int_found ts rest e =
    elim (taken_some (after_word word.Int ts) _ _ _ e) [
      | inl a ↦ inl (subst (λ (x : List Lexeme). ts ≡ Word word.Int ∷ x) (some_is a.0 rest a.2)
          (word_found word.Int ts a.0 a.1))
      | inr n ↦ inr (word_found word.Long ts rest n.1)
    ]

basic_found : (d : ℕ) (o : Outline) (ts : List Lexeme) (y : Part × List Lexeme) → basic_at ts ≡ Some y
    → IsSpecifier d o ts (y.0, o, y.1)
unfolding basic_at
basic_found d o ts y e =
    let of : (s : Specifier) (x : Part × List Lexeme) → ts ≡ specifier s x.1 → x.0 ≡ (specifier_in s o).0
    → o ≡ (specifier_in s o).1 → depth_of_specifier s ≤ d → Some x ≡ Some y → IsSpecifier d o ts (y.0, o, y.1) =
    λ s x spelled part none fits same. subst (λ (z : Part × List Lexeme). IsSpecifier d o ts (z.0, o, z.1))
    (some_is x y same) (record { tree = s; spelled = spelled; value = part; made = none; nested = fits }) in
    elim (taken_some (after_word word.Unsigned ts) _ _ _ e) [
      | inl a ↦
          let first = word_found word.Unsigned ts a.0 a.1 in
          elim (taken_some (int_at a.0) _ _ _ a.2) [
            | inl b ↦ elim (int_found a.0 b.0 b.1) [
              | inl int ↦ of (Plain basic.Unsigned) _
                  (first ∙ ap (λ (x : List Lexeme). Word word.Unsigned ∷ x) int) refl refl (omega arith) b.2
              | inr long ↦ of UnsignedLong _
                  (first ∙ ap (λ (x : List Lexeme). Word word.Unsigned ∷ x) long) refl refl (omega arith) b.2
            ]
            | inr n ↦
                let b = bind_some (after_word word.Hyper a.0) _ y n.1 in
                of (Plain basic.UnsignedHyper) _
                (first ∙ ap (λ (x : List Lexeme). Word word.Unsigned ∷ x) (word_found word.Hyper a.0 b.0 b.1)) refl
                refl (omega arith) b.2
          ]
      | inr n ↦ elim (taken_some (int_at ts) _ _ _ n.1) [
        | inl a ↦ elim (int_found ts a.0 a.1) [
          | inl int ↦ of (Plain basic.Int) _ int refl refl (omega arith) a.2
          | inr long ↦ of Long _ long refl refl (omega arith) a.2
        ]
        | inr m ↦ elim (taken_some (after_word word.Hyper ts) _ _ _ m.1) [
          | inl a ↦ of (Plain basic.Hyper) _ (word_found word.Hyper ts a.0 a.1) refl refl (omega arith) a.2
          | inr k ↦ elim (taken_some (after_word word.Bool ts) _ _ _ k.1) [
            | inl a ↦ of (Plain basic.Bool) _ (word_found word.Bool ts a.0 a.1) refl refl (omega arith) a.2
            | inr j ↦ elim (taken_some (after_word word.Struct ts) _ _ _ j.1) [
              | inl a ↦
                  let b = bind_some (name_at a.0) _ y a.2 in
                  of (StructNamed b.0.0) _ (word_found word.Struct ts a.0 a.1
                  ∙ ap (λ (x : List Lexeme). Word word.Struct ∷ x) (name_found a.0 b.0 b.1)) refl refl
                  (omega arith) b.2
              | inr i ↦
                  let b = bind_some (name_at ts) _ y i.1 in
                  of (Named b.0.0) _ (name_found ts b.0 b.1) refl refl (omega arith) b.2
            ]
          ]
        ]
      ]
    ]

pub body_word_found : (ts : List Lexeme) (y : BodyKind × List Lexeme) → body_word_at ts ≡ Some y
    → ts ≡ word_of y.0 ∷ y.1
unfolding body_word_at
body_word_found ts y e =
    elim (taken_some (after_word word.Enum ts) _ _ _ e) [
      | inl a ↦ subst (λ (z : BodyKind × List Lexeme). ts ≡ word_of z.0 ∷ z.1) (some_is (kind.Enum, a.0) y a.2)
          (word_found word.Enum ts a.0 a.1)
      | inr n ↦ elim (taken_some (after_word word.Struct ts) _ _ _ n.1) [
        | inl a ↦ subst (λ (z : BodyKind × List Lexeme). ts ≡ word_of z.0 ∷ z.1) (some_is (kind.Struct, a.0) y a.2)
            (word_found word.Struct ts a.0 a.1)
        | inr m ↦
            let a = bind_some (after_word word.Union ts) _ y m.1 in
            subst (λ (z : BodyKind × List Lexeme). ts ≡ word_of z.0 ∷ z.1) (some_is (kind.Union, a.0) y a.2)
            (word_found word.Union ts a.0 a.1)
      ]
    ]

inner_word_found : (ts : List Lexeme) (y : BodyKind × List Lexeme) → inner_word_at ts ≡ Some y
    → ts ≡ word_of y.0 ∷ y.1
unfolding inner_word_at
inner_word_found ts y e =
    elim (taken_some (after_word word.Struct ts >>= name_at) _ _ _ e) [
      | inl a ↦ absurd (let e = a.2 in cc)
      | inr n ↦ body_word_found ts y n.1
    ]

pub body_found : (d : ℕ) (reader : Reader Field) → FindsDeclarations d reader
    → (k : BodyKind) (o : Outline) (ts : List Lexeme) (y : Part × Outline × List Lexeme)
    → body_with reader k o ts ≡ Some y → IsBody d k o ts y
unfolding body_with
body_found d reader finds kind.Enum o ts y e = enum_found d o ts y e
body_found d reader finds kind.Struct o ts y e = struct_found d (content_with reader)
    (content_found d reader finds) o ts y e
body_found d reader finds kind.Union o ts y e = union_found d reader finds o ts y e

basic_part : (d : ℕ) (o : Outline) (ts : List Lexeme) (y : Part × Outline × List Lexeme)
    → (basic_at ts >>= λ b. Some (b.0, o, b.1)) ≡ Some y → IsSpecifier d o ts y
basic_part d o ts y e =
    let b = bind_some (basic_at ts) _ y e in
    with_found (b.0.0, o, b.0.1) y (basic_found d o ts b.0 b.1) b.2

pub specifier_found : (d : ℕ) → FindsSpecifiers d (specifier_at d)
unfolding specifier_at
specifier_found zero o ts y e =
    elim (taken_some (inner_word_at ts) _ _ _ e) [
      | inl a ↦ absurd (let e = a.2 in cc)
      | inr m ↦ basic_part zero o ts y m.1
    ]
specifier_found (suc d) o ts y e =
    elim (taken_some (inner_word_at ts) _ _ _ e) [
      | inl a ↦
          let b = body_found d (declaration_with (specifier_at d))
          (declaration_found d (specifier_at d) (specifier_found d)) a.0.0 o a.0.1 y a.2 in
          record {
            tree = Inline b.tree;
            spelled = inner_word_found ts a.0 a.1 ∙ ap (λ (x : Lexeme). x ∷ a.0.1) b.word
                ∙ ap (λ (x : List Lexeme). body_word b.tree ∷ x) b.spelled;
            value = b.value;
            made = b.made;
            nested = b.nested;
          }
      | inr m ↦ basic_part (suc d) o ts y m.1
    ]
