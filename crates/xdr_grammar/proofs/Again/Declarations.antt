-- Completeness: the spelling of a declaration is read as it.
use Rattle.std.proofs.Common.{◌≡◌, ℕ, ◌≤◌, List, ◌∷◌, Some, refl, ◌∙◌}
use Rattle.xdr_tokens.specs.declared.token.Mark.TheVariants as mark
use Rattle.xdr_tokens.specs.Tokens.{Lexeme, Name, Sign}
use Rattle.xdr_grammar.specs.Tree.{Specifier, Declaration, One, Array, ArrayUpTo, Pointer, Opaque, OpaqueUpTo, Text}
use Rattle.xdr_grammar.specs.Tree.{Content, Void, Of, depth_of_specifier, depth_of_declaration, depth_of_content}
use Rattle.xdr_grammar.specs.Grammar.{value, limit, specifier, declaration, content}
use Rattle.xdr_grammar.specs.Outline.{Part, Field, Outline, specifier_in, declaration_in, content_in}
use Rattle.xdr_grammar.specs.Private.Taking.{after_word, after_sign, name_at}
use Rattle.xdr_grammar.specs.Private.Reading.{Reader, opaque_at, text_at, declared_at, declaration_with, content_with}
use Rattle.xdr_grammar.proofs.Leaves.{size_again, limit_again}
use Rattle.xdr_grammar.proofs.Again.Begins.{Ends, specifier_begins, declaration_begins}

abbrev pub RereadsSpecifiers : ℕ → Reader Part → Type 0
RereadsSpecifiers d reader = (s : Specifier) (o : Outline) (ts : List Lexeme) → depth_of_specifier s ≤ d
    → reader o (specifier s ts) ≡ Some ((specifier_in s o).0, (specifier_in s o).1, ts)

abbrev pub RereadsDeclarations : ℕ → Reader Field → Type 0
RereadsDeclarations d reader = (t : Declaration) (o : Outline) (ts : List Lexeme) → depth_of_declaration t ≤ d → Ends ts
    → reader o (declaration t ts) ≡ Some ((declaration_in t o).0, (declaration_in t o).1, ts)

abbrev pub RereadsContents : ℕ → Reader Field → Type 0
RereadsContents d reader = (m : Content) (o : Outline) (ts : List Lexeme) → depth_of_content m ≤ d → Ends ts
    → reader o (content m ts) ≡ Some ((content_in m o).0, (content_in m o).1, ts)

module _ (d : ℕ) (reader : Reader Part) (rereads : RereadsSpecifiers d reader) where
  -- what a specifier's declaration comes to
  after_specifier : (s : Specifier) (o : Outline) (ts : List Lexeme) → depth_of_specifier s ≤ d
      → declaration_with reader o (specifier s ts) ≡ declared_at (specifier_in s o).0 (specifier_in s o).1 ts
  unfolding declaration_with
  after_specifier s o ts fits =
      let b = specifier_begins s ts in
      rw (b.not_opaque, b.not_string, rereads s o ts fits) refl

  pub declaration_again : RereadsDeclarations d (declaration_with reader)
  unfolding declaration_with declared_at opaque_at text_at after_word after_sign name_at
  declaration_again (One s n) o ts fits ends = after_specifier s o (Name n ∷ ts) fits
      ∙ rw (ends.not_sized, ends.not_limited) refl
  declaration_again (Array s n v) o ts fits ends = after_specifier s o
      (Name n ∷ Sign mark.OpenBracket ∷ value v ∷ Sign mark.CloseBracket ∷ ts) fits
      ∙ rw (size_again (specifier_in s o).1 v ts) refl
  declaration_again (ArrayUpTo s n v) o ts fits ends = after_specifier s o
      (Name n ∷ Sign mark.Less ∷ limit v (Sign mark.Greater ∷ ts)) fits
      ∙ rw (limit_again (specifier_in s o).1 v ts) refl
  declaration_again (Pointer s n) o ts fits ends = after_specifier s o (Sign mark.Star ∷ Name n ∷ ts) fits
  declaration_again (Opaque n v) o ts fits ends = rw (size_again o v ts) refl
  declaration_again (OpaqueUpTo n v) o ts fits ends = rw (limit_again o v ts) refl
  declaration_again (Text n v) o ts fits ends = rw (limit_again o v ts) refl

pub content_again : (d : ℕ) (reader : Reader Field) → RereadsDeclarations d reader
    → RereadsContents d (content_with reader)
unfolding content_with after_word
content_again d reader rereads Void o ts fits ends = refl
content_again d reader rereads (Of t) o ts fits ends =
    let b = (declaration_begins t ts).not_void in
    let again = rereads t o ts fits ends in
    rw b again
