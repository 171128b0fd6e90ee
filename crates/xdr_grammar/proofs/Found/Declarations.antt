-- Soundness: what is read as a declaration is the spelling of one.
use Rattle.std.proofs.Common.{◌≡◌, ℕ, ◌≤◌, List, [], ◌∷◌, Option, Some, inl, inr, refl, sym, ap, subst, ◌∙◌, arith}
use Rattle.xdr_tokens.specs.declared.token.Keyword.TheVariants as word
use Rattle.xdr_tokens.specs.declared.token.Mark.TheVariants as mark
use Rattle.xdr_tokens.specs.Tokens.{Lexeme, Word, Name, Sign}
use Rattle.xdr_grammar.specs.Tree.{Specifier, One, Array, ArrayUpTo, Pointer, Opaque, OpaqueUpTo, Text, Void, Of}
use Rattle.xdr_grammar.specs.Tree.{depth_of_specifier, depth_of_declaration, depth_of_content}
use Rattle.xdr_grammar.specs.Grammar.{value, limit, specifier, declaration, content}
use Rattle.xdr_grammar.specs.Outline.{Late, Part, IsVoid, Field, DOpaque, DOpaqueUpTo, DText, DFixed, DUpTo, Outline}
use Rattle.xdr_grammar.specs.Outline.{add, specifier_in, declaration_in, content_in}
use Rattle.xdr_grammar.specs.Private.Taking.{after_word, after_sign, name_at, size_at, limit_at}
use Rattle.xdr_grammar.specs.Private.Reading.{Reader, opaque_at, text_at, declared_at, declaration_with, content_with}
use Rattle.xdr_tokens.proofs.Options.{bind_some}
use Rattle.xdr_grammar.proofs.Rows.{Found, Finds, with_found}
use Rattle.xdr_grammar.proofs.Leaves.{taken_some, word_found, sign_found, name_found, size_found, limit_found}

abbrev pub IsDeclaration : ℕ → Outline → List Lexeme → Field × Outline × List Lexeme → Type 0
IsDeclaration d o ts y = Found declaration declaration_in depth_of_declaration d o ts y

abbrev pub IsSpecifier : ℕ → Outline → List Lexeme → Part × Outline × List Lexeme → Type 0
IsSpecifier d o ts y = Found specifier specifier_in depth_of_specifier d o ts y

abbrev pub IsContent : ℕ → Outline → List Lexeme → Field × Outline × List Lexeme → Type 0
IsContent d o ts y = Found content content_in depth_of_content d o ts y

opaque_found : (d : ℕ) (o : Outline) (ts : List Lexeme) (y : Field × Outline × List Lexeme) → opaque_at o ts ≡ Some y
    → IsDeclaration d o (Word word.Opaque ∷ ts) y
unfolding opaque_at
opaque_found d o ts y e =
    let n = bind_some (name_at ts) _ y e in
    let named : ts ≡ Name n.0.0 ∷ n.0.1 = name_found ts n.0 n.1 in
    elim (taken_some (after_sign mark.OpenBracket n.0.1) _ _ _ n.2) [
      | inl a ↦
          let v = bind_some (size_at o a.0) _ y a.2 in
          let s = size_found o a.0 v.0 v.1 in
          let sized : n.0.1 ≡ Sign mark.OpenBracket ∷ value s.tree ∷ Sign mark.CloseBracket ∷ v.0.1 =
          sign_found mark.OpenBracket n.0.1 a.0 a.1
          ∙ ap (λ (x : List Lexeme). Sign mark.OpenBracket ∷ x) s.spelled in
          with_found _ y
          (record {
            tree = Opaque n.0.0 s.tree;
            spelled = ap (λ (x : List Lexeme). Word word.Opaque ∷ x)
                (named ∙ ap (λ (x : List Lexeme). Name n.0.0 ∷ x) sized);
            value = refl;
            made = ap (λ (x : Late). add (DOpaque x) o) s.late;
            nested = omega arith;
          }) v.2
      | inr b ↦
          let l = bind_some (after_sign mark.Less n.0.1) _ y b.1 in
          let v = bind_some (limit_at o l.0) _ y l.2 in
          let s = limit_found o l.0 v.0 v.1 in
          let sized : n.0.1 ≡ Sign mark.Less ∷ limit s.tree (Sign mark.Greater ∷ v.0.1) =
          sign_found mark.Less n.0.1 l.0 l.1 ∙ ap (λ (x : List Lexeme). Sign mark.Less ∷ x) s.spelled in
          with_found _ y
          (record {
            tree = OpaqueUpTo n.0.0 s.tree;
            spelled = ap (λ (x : List Lexeme). Word word.Opaque ∷ x)
                (named ∙ ap (λ (x : List Lexeme). Name n.0.0 ∷ x) sized);
            value = refl;
            made = ap (λ (x : Option Late). add (DOpaqueUpTo x) o) s.late;
            nested = omega arith;
          }) v.2
    ]

text_found : (d : ℕ) (o : Outline) (ts : List Lexeme) (y : Field × Outline × List Lexeme) → text_at o ts ≡ Some y
    → IsDeclaration d o (Word word.String ∷ ts) y
unfolding text_at
text_found d o ts y e =
    let n = bind_some (name_at ts) _ y e in
    let l = bind_some (after_sign mark.Less n.0.1) _ y n.2 in
    let v = bind_some (limit_at o l.0) _ y l.2 in
    let s = limit_found o l.0 v.0 v.1 in
    let named : ts ≡ Name n.0.0 ∷ n.0.1 = name_found ts n.0 n.1 in
    let sized : n.0.1 ≡ Sign mark.Less ∷ limit s.tree (Sign mark.Greater ∷ v.0.1) = sign_found mark.Less n.0.1 l.0 l.1
    ∙ ap (λ (x : List Lexeme). Sign mark.Less ∷ x) s.spelled in
    with_found _ y
    (record {
      tree = Text n.0.0 s.tree;
      spelled = ap (λ (x : List Lexeme). Word word.String ∷ x)
          (named ∙ ap (λ (x : List Lexeme). Name n.0.0 ∷ x) sized);
      value = refl;
      made = ap (λ (x : Option Late). add (DText x) o) s.late;
      nested = omega arith;
    }) v.2

-- what follows the specifier s
declared_found : (d : ℕ) (s : Specifier) (o : Outline) (ts : List Lexeme) (y : Field × Outline × List Lexeme)
    → depth_of_specifier s ≤ d → declared_at (specifier_in s o).0 (specifier_in s o).1 ts ≡ Some y
    → IsDeclaration d o (specifier s ts) y
unfolding declared_at
declared_found d s o ts y fits e =
    elim (taken_some (after_sign mark.Star ts) _ _ _ e) [
      | inl a ↦
          let n = bind_some (name_at a.0) _ y a.2 in
          let all : ts ≡ Sign mark.Star ∷ Name n.0.0 ∷ n.0.1 = sign_found mark.Star ts a.0 a.1
          ∙ ap (λ (x : List Lexeme). Sign mark.Star ∷ x) (name_found a.0 n.0 n.1) in
          with_found _ y
          (record {
            tree = Pointer s n.0.0;
            spelled = ap (specifier s) all;
            value = refl;
            made = refl;
            nested = fits;
          }) n.2
      | inr b ↦
          let n = bind_some (name_at ts) _ y b.1 in
          let named : ts ≡ Name n.0.0 ∷ n.0.1 = name_found ts n.0 n.1 in
          elim (taken_some (after_sign mark.OpenBracket n.0.1) _ _ _ n.2) [
            | inl a ↦
                let v = bind_some (size_at (specifier_in s o).1 a.0) _ y a.2 in
                let z = size_found (specifier_in s o).1 a.0 v.0 v.1 in
                let all : ts ≡ Name n.0.0 ∷ Sign mark.OpenBracket ∷ value z.tree ∷ Sign mark.CloseBracket ∷ v.0.1 =
                named ∙ ap (λ (x : List Lexeme). Name n.0.0 ∷ x) (sign_found mark.OpenBracket n.0.1 a.0 a.1
                ∙ ap (λ (x : List Lexeme). Sign mark.OpenBracket ∷ x) z.spelled) in
                with_found _ y
                (record {
                  tree = Array s n.0.0 z.tree;
                  spelled = ap (specifier s) all;
                  value = refl;
                  made = ap (λ (x : Late). add (DFixed (specifier_in s o).0 x) (specifier_in s o).1) z.late;
                  nested = fits;
                }) v.2
            | inr c ↦ elim (taken_some (after_sign mark.Less n.0.1) _ _ _ c.1) [
              | inl a ↦
                  let v = bind_some (limit_at (specifier_in s o).1 a.0) _ y a.2 in
                  let z = limit_found (specifier_in s o).1 a.0 v.0 v.1 in
                  let all : ts ≡ Name n.0.0 ∷ Sign mark.Less ∷ limit z.tree (Sign mark.Greater ∷ v.0.1) = named
                  ∙ ap (λ (x : List Lexeme). Name n.0.0 ∷ x) (sign_found mark.Less n.0.1 a.0 a.1
                  ∙ ap (λ (x : List Lexeme). Sign mark.Less ∷ x) z.spelled) in
                  with_found _ y
                  (record {
                    tree = ArrayUpTo s n.0.0 z.tree;
                    spelled = ap (specifier s) all;
                    value = refl;
                    made = ap (λ (x : Option Late). add (DUpTo (specifier_in s o).0 x) (specifier_in s o).1) z.late;
                    nested = fits;
                  }) v.2
              | inr f ↦ with_found _ y
                  (record {
                    tree = One s n.0.0;
                    spelled = ap (specifier s) named;
                    value = refl;
                    made = refl;
                    nested = fits;
                  }) f.1
            ]
          ]
    ]

abbrev pub FindsSpecifiers : ℕ → Reader Part → Type 0
FindsSpecifiers d reader = Finds specifier specifier_in depth_of_specifier d reader

abbrev pub FindsDeclarations : ℕ → Reader Field → Type 0
FindsDeclarations d reader = Finds declaration declaration_in depth_of_declaration d reader

abbrev pub FindsContents : ℕ → Reader Field → Type 0
FindsContents d reader = Finds content content_in depth_of_content d reader

pub declaration_found : (d : ℕ) (reader : Reader Part) → FindsSpecifiers d reader
    → FindsDeclarations d (declaration_with reader)
unfolding declaration_with
declaration_found d reader finds o ts y e =
    elim (taken_some (after_word word.Opaque ts) _ _ _ e) [
      | inl a ↦ subst (λ (x : List Lexeme). IsDeclaration d o x y) (sym (word_found word.Opaque ts a.0 a.1))
          (opaque_found d o a.0 y a.2)
      | inr m ↦ elim (taken_some (after_word word.String ts) _ _ _ m.1) [
        | inl a ↦ subst (λ (x : List Lexeme). IsDeclaration d o x y) (sym (word_found word.String ts a.0 a.1))
            (text_found d o a.0 y a.2)
        | inr k ↦
            let s = bind_some (reader o ts) _ y k.1 in
            let found = finds o ts s.0 s.1 in
            let e2 : declared_at (specifier_in found.tree o).0 (specifier_in found.tree o).1 s.0.2 ≡ Some y = rw
            (← found.value, ← found.made) s.2 in
            subst (λ (x : List Lexeme). IsDeclaration d o x y) (sym found.spelled)
            (declared_found d found.tree o s.0.2 y found.nested e2)
      ]
    ]

pub content_found : (d : ℕ) (declaration : Reader Field) → FindsDeclarations d declaration
    → FindsContents d (content_with declaration)
unfolding content_with
content_found d reader finds o ts y e =
    elim (taken_some (after_word word.Void ts) _ _ _ e) [
      | inl a ↦ with_found (record { name = []; part = IsVoid }, o, a.0) y (record {
        tree = Void;
        spelled = word_found word.Void ts a.0 a.1;
        value = refl;
        made = refl;
        nested = omega arith;
      }) a.2
      | inr n ↦ let f = finds o ts y n.1 in
          record { tree = Of f.tree; spelled = f.spelled; value = f.value; made = f.made; nested = f.nested }
    ]
