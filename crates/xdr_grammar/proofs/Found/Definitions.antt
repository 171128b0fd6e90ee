-- Soundness of whole texts, a definition at a time.
use Rattle.std.proofs.Common.{◌≡◌, ℕ, zero, suc, ◌≤◌, ℤ, List, [], ◌∷◌, length, Some, inl, inr, refl, sym, ap, subst}
use Rattle.std.proofs.Common.{◌∙◌, arith}
use Rattle.xdr_tokens.specs.declared.token.Keyword.TheVariants as word
use Rattle.xdr_tokens.specs.declared.token.Mark.TheVariants as mark
use Rattle.xdr_tokens.specs.Tokens.{Lexeme, Word, Name, Sign}
use Rattle.xdr_grammar.specs.Tree.{Definition, ConstantOf, Typedef, Defined, ProgramOf, depth_of_definition, depth}
use Rattle.xdr_grammar.specs.Grammar.{body_word, body, declaration, versions, definition, specification}
use Rattle.xdr_grammar.specs.Outline.{Part, Field, Version, Program, Outline, defined_as, add_type, add_program}
use Rattle.xdr_grammar.specs.Outline.{body_in, declaration_in, versions_in, definition_in, outlined}
use Rattle.xdr_grammar.specs.Private.Taking.{after_word, after_sign, name_at, numbered_at}
use Rattle.xdr_grammar.specs.Private.Reading.{repeat, declaration_with, body_word_at, body_with, specifier_at}
use Rattle.xdr_grammar.specs.Private.Reading.{version_with, program_with, const_at, typedef_with, defined_with}
use Rattle.xdr_grammar.specs.Private.Reading.{definition_at, definitions_at}
use Rattle.xdr_tokens.proofs.Options.{bind_some, some_is}
use Rattle.xdr_grammar.proofs.Leaves.{taken_some, word_found, sign_found, name_found, numbered_found}
use Rattle.xdr_grammar.proofs.Rows.{row_found}
use Rattle.xdr_grammar.proofs.Found.Declarations.{declaration_found}
use Rattle.xdr_grammar.proofs.Found.Specifiers.{specifier_found, body_found, body_word_found}
use Rattle.xdr_grammar.proofs.Found.Programs.{version_found, version_rows}

record IsDefinition (o : Outline) (ts : List Lexeme) (y : Outline × List Lexeme) : Type 0 where
  tree : Definition
  spelled : ts ≡ definition tree y.1
  made : y.0 ≡ definition_in tree o
  nested : depth_of_definition tree ≤ 32

with_definition : (o : Outline) (ts : List Lexeme) (x y : Outline × List Lexeme) → IsDefinition o ts x → Some x ≡ Some y
    → IsDefinition o ts y
with_definition o ts x y h e = subst (λ (z : Outline × List Lexeme). IsDefinition o ts z) (some_is x y e) h

const_found : (o : Outline) (ts : List Lexeme) (y : Outline × List Lexeme) → const_at o ts ≡ Some y
    → IsDefinition o (Word word.Const ∷ ts) y
unfolding const_at
const_found o ts y e =
    let n = bind_some (name_at ts) _ y e in
    let v = bind_some (numbered_at n.0.1) _ y n.2 in
    with_definition o (Word word.Const ∷ ts) _ y
    (record {
      tree = ConstantOf n.0.0 v.0.0;
      spelled = ap (λ (x : List Lexeme). Word word.Const ∷ x)
          (name_found ts n.0 n.1 ∙ ap (λ (x : List Lexeme). Name n.0.0 ∷ x) (numbered_found n.0.1 v.0 v.1));
      made = refl;
      nested = omega arith;
    }) v.2

typedef_found : (o : Outline) (ts : List Lexeme) (y : Outline × List Lexeme)
    → typedef_with (declaration_with (specifier_at 32)) o ts ≡ Some y → IsDefinition o (Word word.Typedef ∷ ts) y
unfolding typedef_with
typedef_found o ts y e =
    let f = bind_some (declaration_with (specifier_at 32) o ts) _ y e in
    let s = bind_some (after_sign mark.Semicolon f.0.2) _ y f.2 in
    let found = declaration_found 32 (specifier_at 32) (specifier_found 32) o ts f.0 f.1 in
    with_definition o (Word word.Typedef ∷ ts) _ y (record {
      tree = Typedef found.tree;
      spelled = ap (λ (x : List Lexeme). Word word.Typedef ∷ x)
          (found.spelled ∙ ap (declaration found.tree) (sign_found mark.Semicolon f.0.2 s.0 s.1));
      made = ap (λ (x : Field). add_type x f.0.1) found.value
          ∙ ap (λ (x : Outline). add_type (declaration_in found.tree o).0 x) found.made;
      nested = found.nested;
    }) s.2

abbrev a_type : List ℕ → Part → Field
a_type n p = record { name = n; part = p }

defined_found : (o : Outline) (ts : List Lexeme) (y : Outline × List Lexeme)
    → defined_with (declaration_with (specifier_at 31)) o ts ≡ Some y → IsDefinition o ts y
unfolding defined_with
defined_found o ts y e =
    let k = bind_some (body_word_at ts) _ y e in
    let n = bind_some (name_at k.0.1) _ y k.2 in
    let p = bind_some (body_with (declaration_with (specifier_at 31)) k.0.0 o n.0.1) _ y n.2 in
    let s = bind_some (after_sign mark.Semicolon p.0.2) _ y p.2 in
    let found = body_found 31 (declaration_with (specifier_at 31))
    (declaration_found 31 (specifier_at 31) (specifier_found 31)) k.0.0 o n.0.1 p.0 p.1 in
    let rest : k.0.1 ≡ Name n.0.0 ∷ body found.tree (Sign mark.Semicolon ∷ s.0) = name_found k.0.1 n.0 n.1
    ∙ ap (λ (x : List Lexeme). Name n.0.0 ∷ x)
    (found.spelled ∙ ap (body found.tree) (sign_found mark.Semicolon p.0.2 s.0 s.1)) in
    with_definition o ts _ y (record {
      tree = Defined n.0.0 found.tree;
      spelled = body_word_found ts k.0 k.1 ∙ ap (λ (x : Lexeme). x ∷ k.0.1) found.word
          ∙ ap (λ (x : List Lexeme). body_word found.tree ∷ x) rest;
      made = ap (λ (x : Part). add_type (a_type n.0.0 x) p.0.1)
          (found.defined p.0.0 ∙ ap (defined_as found.tree) found.value)
          ∙ ap (λ (x : Outline). add_type (a_type n.0.0 (defined_as found.tree (body_in found.tree o).0)) x) found.made;
      nested = found.nested;
    }) s.2

abbrev a_program : List ℕ → ℤ → List Version → Program
a_program n v vs = record { name = n; number = v; versions = vs }

program_found : (o : Outline) (ts : List Lexeme) (y : Outline × List Lexeme)
    → program_with (specifier_at 32) o ts ≡ Some y → IsDefinition o (Word word.Program ∷ ts) y
unfolding program_with
program_found o ts y e =
    let n = bind_some (name_at ts) _ y e in
    let i = bind_some (after_sign mark.OpenBrace n.0.1) _ y n.2 in
    let w = bind_some (repeat (version_with (specifier_at 32)) (length i.0) o i.0) _ y i.2 in
    let v = bind_some (numbered_at w.0.2) _ y w.2 in
    let vs = row_found version_rows 32 (version_with (specifier_at 32))
    (version_found 32 (specifier_at 32) (specifier_found 32)) (length i.0) o i.0 w.0 w.1 in
    with_definition o (Word word.Program ∷ ts) _ y (record {
      tree = ProgramOf (record { name = n.0.0; first = vs.tree.0; others = vs.tree.1; number = v.0.0 });
      spelled = ap (λ (x : List Lexeme). Word word.Program ∷ x)
          (name_found ts n.0 n.1 ∙ ap (λ (x : List Lexeme). Name n.0.0 ∷ x) (sign_found mark.OpenBrace n.0.1 i.0 i.1
          ∙ ap (λ (x : List Lexeme). Sign mark.OpenBrace ∷ x)
          (vs.spelled ∙ ap (λ (x : List Lexeme). versions (vs.tree.0 ∷ vs.tree.1) (Sign mark.CloseBrace ∷ x))
          (numbered_found w.0.2 v.0 v.1))));
      made = ap (λ (x : List Version). add_program (a_program n.0.0 v.0.0 x) w.0.1) vs.value
          ∙ ap (λ (x : Outline). add_program (a_program n.0.0 v.0.0 (versions_in (vs.tree.0 ∷ vs.tree.1) o).0) x)
          vs.made;
      nested = vs.nested;
    }) v.2

definition_found : (o : Outline) (ts : List Lexeme) (y : Outline × List Lexeme) → definition_at o ts ≡ Some y
    → IsDefinition o ts y
unfolding definition_at
definition_found o ts y e =
    elim (taken_some (after_word word.Const ts) _ _ _ e) [
      | inl a ↦ subst (λ (x : List Lexeme). IsDefinition o x y) (sym (word_found word.Const ts a.0 a.1))
          (const_found o a.0 y a.2)
      | inr n ↦ elim (taken_some (after_word word.Typedef ts) _ _ _ n.1) [
        | inl a ↦ subst (λ (x : List Lexeme). IsDefinition o x y) (sym (word_found word.Typedef ts a.0 a.1))
            (typedef_found o a.0 y a.2)
        | inr m ↦ elim (taken_some (after_word word.Program ts) _ _ _ m.1) [
          | inl a ↦ subst (λ (x : List Lexeme). IsDefinition o x y) (sym (word_found word.Program ts a.0 a.1))
              (program_found o a.0 y a.2)
          | inr k ↦ defined_found o ts y k.1
        ]
      ]
    ]

pub record AreDefinitions (o : Outline) (ts : List Lexeme) (v : Outline) : Type 0 where
  pub tree : List Definition
  pub spelled : ts ≡ specification tree
  pub nested : depth tree ≤ 32
  pub made : v ≡ outlined tree o

pub definitions_found : (n : ℕ) (o : Outline) (ts : List Lexeme) (v : Outline) → definitions_at n o ts ≡ Some v
    → AreDefinitions o ts v
unfolding definitions_at
definitions_found n o [] v e = let same : Some o ≡ Some v = e in
    record { tree = []; spelled = refl; nested = omega arith; made = sym (some_is o v same) }
definitions_found zero o (t ∷ ts) v e = absurd cc
definitions_found (suc n) o (t ∷ ts) v e =
    let x = bind_some (definition_at o (t ∷ ts)) _ v e in
    let first = definition_found o (t ∷ ts) x.0 x.1 in
    let rest = definitions_found n x.0.0 x.0.1 v x.2 in
    record {
      tree = first.tree ∷ rest.tree;
      spelled = first.spelled ∙ ap (definition first.tree) rest.spelled;
      nested = omega (arith, first.nested, rest.nested);
      made = rest.made ∙ ap (outlined rest.tree) first.made;
    }
