-- Completeness of type specifiers, with the bodies inside them.
use Rattle.std.proofs.Common.{◌≡◌, ℕ, zero, suc, ◌≤◌, List, ◌∷◌, Some, refl, arith}
use Rattle.xdr_grammar.specs.declared.outline.Basic.TheVariants as basic
use Rattle.xdr_grammar.specs.declared.outline.BodyKind.{BodyKind}
use Rattle.xdr_grammar.specs.declared.outline.BodyKind.TheVariants as kind
use Rattle.xdr_tokens.specs.Tokens.{Lexeme}
use Rattle.xdr_grammar.specs.Tree.{Plain, Long, UnsignedLong, Named, StructNamed, Inline, Body, EnumBody, StructBody}
use Rattle.xdr_grammar.specs.Tree.{UnionBody, depth_of_body}
use Rattle.xdr_grammar.specs.Grammar.{body_word, body}
use Rattle.xdr_grammar.specs.Outline.{Part, Field, Outline, defined_as, body_in}
use Rattle.xdr_grammar.specs.Private.Taking.{after_word, name_at}
use Rattle.xdr_grammar.specs.Private.Reading.{Reader, declaration_with, content_with, int_at, basic_at, body_word_at}
use Rattle.xdr_grammar.specs.Private.Reading.{inner_word_at, body_with, defined_part, specifier_at}
use Rattle.xdr_grammar.proofs.Again.Declarations.{RereadsSpecifiers, RereadsDeclarations, declaration_again}
use Rattle.xdr_grammar.proofs.Again.Declarations.{content_again}
use Rattle.xdr_grammar.proofs.Again.Bodies.{enum_again, struct_again}
use Rattle.xdr_grammar.proofs.Again.Unions.{union_again}

pub kind_of : Body → BodyKind
kind_of (EnumBody m ms) = kind.Enum
kind_of (StructBody fs) = kind.Struct
kind_of (UnionBody t cs e) = kind.Union

pub body_word_again : (b : Body) (ts : List Lexeme) → body_word_at (body_word b ∷ ts) ≡ Some (kind_of b, ts)
unfolding body_word_at after_word kind_of
body_word_again (EnumBody m ms) ts = refl
body_word_again (StructBody fs) ts = refl
body_word_again (UnionBody t cs e) ts = refl

inner_word_again : (b : Body) (ts : List Lexeme)
    → inner_word_at (body_word b ∷ body b ts) ≡ Some (kind_of b, body b ts)
unfolding inner_word_at body_word_at after_word name_at kind_of
inner_word_again (EnumBody m ms) ts = refl
inner_word_again (StructBody fs) ts = refl
inner_word_again (UnionBody t cs e) ts = refl

pub part_again : (b : Body) (p : Part) → defined_part (kind_of b) p ≡ defined_as b p
unfolding kind_of
part_again (EnumBody m ms) p = refl
part_again (StructBody fs) p = refl
part_again (UnionBody t cs e) p = refl

pub body_again : (d : ℕ) (reader : Reader Field) → RereadsDeclarations d reader
    → (b : Body) (o : Outline) (ts : List Lexeme) → depth_of_body b ≤ suc d
    → body_with reader (kind_of b) o (body b ts) ≡ Some ((body_in b o).0, (body_in b o).1, ts)
unfolding body_with kind_of
body_again d reader rereads (EnumBody m ms) o ts fits = enum_again m ms o ts
body_again d reader rereads (StructBody fs) o ts fits = struct_again d (content_with reader)
    (content_again d reader rereads) fs o ts (omega arith)
body_again d reader rereads (UnionBody t cs e) o ts fits = union_again d reader rereads t cs e o ts (omega arith)

no_body : (b : Body) → depth_of_body b ≤ 0 → ⊥
no_body (EnumBody m ms) h = absurd (omega arith)
no_body (StructBody fs) h = absurd (omega arith)
no_body (UnionBody t cs e) h = absurd (omega arith)

inline_again : (d : ℕ) → RereadsSpecifiers d (specifier_at d) → (b : Body) (o : Outline) (ts : List Lexeme)
    → depth_of_body b ≤ suc d
    → specifier_at (suc d) o (body_word b ∷ body b ts) ≡ Some ((body_in b o).0, (body_in b o).1, ts)
unfolding specifier_at
inline_again d rereads b o ts fits =
    rw (inner_word_again b ts)
    (body_again d (declaration_with (specifier_at d)) (declaration_again d (specifier_at d) rereads) b o ts fits)

pub specifier_again : (d : ℕ) → RereadsSpecifiers d (specifier_at d)
unfolding specifier_at basic_at int_at inner_word_at body_word_at after_word name_at
specifier_again zero (Plain basic.Int) o ts fits = refl
specifier_again zero (Plain basic.Unsigned) o ts fits = refl
specifier_again zero (Plain basic.Hyper) o ts fits = refl
specifier_again zero (Plain basic.UnsignedHyper) o ts fits = refl
specifier_again zero (Plain basic.Bool) o ts fits = refl
specifier_again zero Long o ts fits = refl
specifier_again zero UnsignedLong o ts fits = refl
specifier_again zero (Named n) o ts fits = refl
specifier_again zero (StructNamed n) o ts fits = refl
specifier_again zero (Inline b) o ts fits = absurd (no_body b fits)
specifier_again (suc d) (Plain basic.Int) o ts fits = refl
specifier_again (suc d) (Plain basic.Unsigned) o ts fits = refl
specifier_again (suc d) (Plain basic.Hyper) o ts fits = refl
specifier_again (suc d) (Plain basic.UnsignedHyper) o ts fits = refl
specifier_again (suc d) (Plain basic.Bool) o ts fits = refl
specifier_again (suc d) Long o ts fits = refl
specifier_again (suc d) UnsignedLong o ts fits = refl
specifier_again (suc d) (Named n) o ts fits = refl
specifier_again (suc d) (StructNamed n) o ts fits = refl
specifier_again (suc d) (Inline b) o ts fits = inline_again d (specifier_again d) b o ts fits
