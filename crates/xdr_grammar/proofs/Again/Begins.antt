-- How what is spelled begins and ends, so that a reader goes the right way.
use Rattle.std.proofs.Common.{◌≡◌, List, ◌∷◌, Some, None, refl}
use Rattle.xdr_tokens.specs.declared.token.Keyword.TheVariants as word
use Rattle.xdr_tokens.specs.declared.token.Mark.TheVariants as mark
use Rattle.xdr_grammar.specs.declared.outline.Basic.TheVariants as basic
use Rattle.xdr_tokens.specs.Tokens.{Lexeme, Word, Name, Sign}
use Rattle.xdr_grammar.specs.Tree.{Specifier, Plain, Long, UnsignedLong, Named, StructNamed, Inline, EnumBody}
use Rattle.xdr_grammar.specs.Tree.{StructBody, UnionBody, Declaration, One, Array, ArrayUpTo, Pointer, Opaque}
use Rattle.xdr_grammar.specs.Tree.{OpaqueUpTo, Text, Content, Void, Of, Fields, Last, More}
use Rattle.xdr_grammar.specs.Grammar.{value, limit, specifier, declaration, content, fields}
use Rattle.xdr_grammar.specs.Private.Taking.{after_word, after_sign}

-- What follows doesn't make a declaration longer.
pub record Ends (ts : List Lexeme) : Type 0 where
  pub not_sized : after_sign mark.OpenBracket ts ≡ None
  pub not_limited : after_sign mark.Less ts ≡ None

pub ends_semicolon : (ts : List Lexeme) → Ends (Sign mark.Semicolon ∷ ts)
unfolding after_sign
ends_semicolon ts = record { not_sized = refl; not_limited = refl }

pub ends_round : (ts : List Lexeme) → Ends (Sign mark.CloseRound ∷ ts)
unfolding after_sign
ends_round ts = record { not_sized = refl; not_limited = refl }

-- How a type specifier doesn't begin.
pub record Begins (ts : List Lexeme) : Type 0 where
  pub not_void : after_word word.Void ts ≡ None
  pub not_opaque : after_word word.Opaque ts ≡ None
  pub not_string : after_word word.String ts ≡ None
  pub not_case : after_word word.Case ts ≡ None
  pub not_close : after_sign mark.CloseBrace ts ≡ None

begins : (ts : List Lexeme) → after_word word.Void ts ≡ None → after_word word.Opaque ts ≡ None
    → after_word word.String ts ≡ None → after_word word.Case ts ≡ None → after_sign mark.CloseBrace ts ≡ None
    → Begins ts
begins ts v o s c b = record { not_void = v; not_opaque = o; not_string = s; not_case = c; not_close = b }

pub specifier_begins : (s : Specifier) (ts : List Lexeme) → Begins (specifier s ts)
unfolding after_word after_sign
specifier_begins (Plain basic.Int) ts = begins _ refl refl refl refl refl
specifier_begins (Plain basic.Unsigned) ts = begins _ refl refl refl refl refl
specifier_begins (Plain basic.Hyper) ts = begins _ refl refl refl refl refl
specifier_begins (Plain basic.UnsignedHyper) ts = begins _ refl refl refl refl refl
specifier_begins (Plain basic.Bool) ts = begins _ refl refl refl refl refl
specifier_begins Long ts = begins _ refl refl refl refl refl
specifier_begins UnsignedLong ts = begins _ refl refl refl refl refl
specifier_begins (Named n) ts = begins _ refl refl refl refl refl
specifier_begins (StructNamed n) ts = begins _ refl refl refl refl refl
specifier_begins (Inline (EnumBody m ms)) ts = begins _ refl refl refl refl refl
specifier_begins (Inline (StructBody fs)) ts = begins _ refl refl refl refl refl
specifier_begins (Inline (UnionBody t cs d)) ts = begins _ refl refl refl refl refl

-- nor a declaration
pub record BeginsDeclaration (ts : List Lexeme) : Type 0 where
  pub not_void : after_word word.Void ts ≡ None
  pub not_case : after_word word.Case ts ≡ None
  pub not_close : after_sign mark.CloseBrace ts ≡ None

with_specifier : (s : Specifier) (ts : List Lexeme) → BeginsDeclaration (specifier s ts)
with_specifier s ts = let b = specifier_begins s ts in
    record { not_void = b.not_void; not_case = b.not_case; not_close = b.not_close }

pub declaration_begins : (t : Declaration) (ts : List Lexeme) → BeginsDeclaration (declaration t ts)
unfolding after_word after_sign
declaration_begins (One s n) ts = with_specifier s (Name n ∷ ts)
declaration_begins (Array s n v) ts = with_specifier s
    (Name n ∷ Sign mark.OpenBracket ∷ value v ∷ Sign mark.CloseBracket ∷ ts)
declaration_begins (ArrayUpTo s n v) ts = with_specifier s (Name n ∷ Sign mark.Less ∷ limit v (Sign mark.Greater ∷ ts))
declaration_begins (Pointer s n) ts = with_specifier s (Sign mark.Star ∷ Name n ∷ ts)
declaration_begins (Opaque n v) ts = record { not_void = refl; not_case = refl; not_close = refl }
declaration_begins (OpaqueUpTo n v) ts = record { not_void = refl; not_case = refl; not_close = refl }
declaration_begins (Text n v) ts = record { not_void = refl; not_case = refl; not_close = refl }

pub content_not_case : (m : Content) (ts : List Lexeme) → after_word word.Case (content m ts) ≡ None
unfolding after_word
content_not_case Void ts = refl
content_not_case (Of t) ts = (declaration_begins t ts).not_case

content_not_close : (m : Content) (ts : List Lexeme) → after_sign mark.CloseBrace (content m ts) ≡ None
unfolding after_sign
content_not_close Void ts = refl
content_not_close (Of t) ts = (declaration_begins t ts).not_close

pub fields_not_close : (fs : Fields) (ts : List Lexeme) → after_sign mark.CloseBrace (fields fs ts) ≡ None
fields_not_close (Last d) ts = content_not_close d (Sign mark.Semicolon ∷ ts)
fields_not_close (More d fs) ts = content_not_close d (Sign mark.Semicolon ∷ fields fs ts)

pub semicolon_again : (ts : List Lexeme) → after_sign mark.Semicolon (Sign mark.Semicolon ∷ ts) ≡ Some ts
unfolding after_sign
semicolon_again ts = refl

pub close_again : (ts : List Lexeme) → after_sign mark.CloseBrace (Sign mark.CloseBrace ∷ ts) ≡ Some ts
unfolding after_sign
close_again ts = refl

pub case_word : (ts : List Lexeme) → after_word word.Case (Word word.Case ∷ ts) ≡ Some ts
unfolding after_word
case_word ts = refl
