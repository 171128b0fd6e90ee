-- The grammar (RFC 4506 section 6.3, RFC 5531 section 12.2): the tokens of each tree, with the tokens that follow it.
use Rattle.std.specs.Prelude.{List, [], ◌∷◌, Option, Some, None}
use Rattle.xdr_tokens.specs.declared.token.Keyword.TheVariants as word
use Rattle.xdr_tokens.specs.declared.token.Mark.TheVariants as mark
use Rattle.xdr_grammar.specs.declared.outline.Basic.{Basic}
use Rattle.xdr_grammar.specs.declared.outline.Basic.TheVariants as basic
use Rattle.xdr_tokens.specs.Tokens.{Lexeme, Word, Name, Number, Sign}
use Rattle.xdr_grammar.specs.Tree.{Value, Literal, Constant, Member, Specifier, Plain, Long, UnsignedLong, Named}
use Rattle.xdr_grammar.specs.Tree.{StructNamed, Inline, Body, EnumBody}
use Rattle.xdr_grammar.specs.Tree.{StructBody, UnionBody, Declaration, One, Array, ArrayUpTo, Pointer, Opaque}
use Rattle.xdr_grammar.specs.Tree.{OpaqueUpTo, Text, Content, Void, Of, Fields, Last, More, Cases, LastCase, MoreCases}
use Rattle.xdr_grammar.specs.Tree.{Default, NoDefault, Otherwise, Passed, AnyText, OfType, Procedure, Version}
use Rattle.xdr_grammar.specs.Tree.{Definition, ConstantOf, Typedef, Defined, ProgramOf}

-- constant | identifier
abbrev pub value : Value → Lexeme
value (Literal n) = Number n
value (Constant n) = Name n

-- [ value ], between < and >
abbrev pub limit : Option Value → List Lexeme → List Lexeme
limit None ts = ts
limit (Some v) ts = value v ∷ ts

-- [ "unsigned" ] "int" | [ "unsigned" ] "hyper" | "bool"
abbrev pub basic_words : Basic → List Lexeme → List Lexeme
basic_words basic.Int ts = Word word.Int ∷ ts
basic_words basic.Unsigned ts = Word word.Unsigned ∷ Word word.Int ∷ ts
basic_words basic.Hyper ts = Word word.Hyper ∷ ts
basic_words basic.UnsignedHyper ts = Word word.Unsigned ∷ Word word.Hyper ∷ ts
basic_words basic.Bool ts = Word word.Bool ∷ ts

-- identifier "=" value
abbrev pub member : Member → List Lexeme → List Lexeme
member m ts = Name m.name ∷ Sign mark.Equal ∷ value m.value ∷ ts

-- ( "," identifier "=" value )*
abbrev pub members : List Member → List Lexeme → List Lexeme
members [] ts = ts
members (m ∷ ms) ts = Sign mark.Comma ∷ member m (members ms ts)

-- ( "case" value ":" )*
abbrev pub cases : List Value → List Lexeme → List Lexeme
cases [] ts = ts
cases (v ∷ vs) ts = Word word.Case ∷ value v ∷ Sign mark.Colon ∷ cases vs ts

-- the word before a body
abbrev pub body_word : Body → Lexeme
body_word (EnumBody m ms) = Word word.Enum
body_word (StructBody fs) = Word word.Struct
body_word (UnionBody t cs d) = Word word.Union

abbrev mutual
  -- type-specifier; [ "unsigned" ] "long" and "struct" identifier are of RFC 1833's text
  pub specifier : Specifier → List Lexeme → List Lexeme
  specifier (Plain b) ts = basic_words b ts
  specifier Long ts = Word word.Long ∷ ts
  specifier UnsignedLong ts = Word word.Unsigned ∷ Word word.Long ∷ ts
  specifier (Named n) ts = Name n ∷ ts
  specifier (StructNamed n) ts = Word word.Struct ∷ Name n ∷ ts
  specifier (Inline b) ts = body_word b ∷ body b ts

  -- enum-body | struct-body | union-body
  pub body : Body → List Lexeme → List Lexeme
  body (EnumBody m ms) ts = Sign mark.OpenBrace ∷ member m (members ms (Sign mark.CloseBrace ∷ ts))
  body (StructBody fs) ts = Sign mark.OpenBrace ∷ fields fs (Sign mark.CloseBrace ∷ ts)
  body (UnionBody t cs d) ts = Word word.Switch ∷ Sign mark.OpenRound ∷ declaration t
      (Sign mark.CloseRound ∷ Sign mark.OpenBrace ∷ arms cs (otherwise d (Sign mark.CloseBrace ∷ ts)))

  -- declaration, but not "void"
  pub declaration : Declaration → List Lexeme → List Lexeme
  declaration (One s n) ts = specifier s (Name n ∷ ts)
  declaration (Array s n v) ts = specifier s (Name n ∷ Sign mark.OpenBracket ∷ value v ∷ Sign mark.CloseBracket ∷ ts)
  declaration (ArrayUpTo s n v) ts = specifier s (Name n ∷ Sign mark.Less ∷ limit v (Sign mark.Greater ∷ ts))
  declaration (Pointer s n) ts = specifier s (Sign mark.Star ∷ Name n ∷ ts)
  declaration (Opaque n v) ts =
      Word word.Opaque ∷ Name n ∷ Sign mark.OpenBracket ∷ value v ∷ Sign mark.CloseBracket ∷ ts
  declaration (OpaqueUpTo n v) ts = Word word.Opaque ∷ Name n ∷ Sign mark.Less ∷ limit v (Sign mark.Greater ∷ ts)
  declaration (Text n v) ts = Word word.String ∷ Name n ∷ Sign mark.Less ∷ limit v (Sign mark.Greater ∷ ts)

  -- declaration
  pub content : Content → List Lexeme → List Lexeme
  content Void ts = Word word.Void ∷ ts
  content (Of d) ts = declaration d ts

  -- ( declaration ";" ) ( declaration ";" )*
  pub fields : Fields → List Lexeme → List Lexeme
  fields (Last d) ts = content d (Sign mark.Semicolon ∷ ts)
  fields (More d fs) ts = content d (Sign mark.Semicolon ∷ fields fs ts)

  -- case-spec case-spec*
  pub arms : Cases → List Lexeme → List Lexeme
  arms (LastCase v vs d) ts = cases (v ∷ vs) (content d (Sign mark.Semicolon ∷ ts))
  arms (MoreCases v vs d cs) ts = cases (v ∷ vs) (content d (Sign mark.Semicolon ∷ arms cs ts))

  -- [ "default" ":" declaration ";" ]
  pub otherwise : Default → List Lexeme → List Lexeme
  otherwise NoDefault ts = ts
  otherwise (Otherwise d) ts = Word word.Default ∷ Sign mark.Colon ∷ content d (Sign mark.Semicolon ∷ ts)

-- a type of an argument or a result; "string" alone is one
abbrev pub passed : Passed → List Lexeme → List Lexeme
passed AnyText ts = Word word.String ∷ ts
passed (OfType s) ts = specifier s ts

-- "void" | type-specifier
abbrev pub result : Option Passed → List Lexeme → List Lexeme
result None ts = Word word.Void ∷ ts
result (Some p) ts = passed p ts

-- ( "," type-specifier )*
abbrev pub more_arguments : List Passed → List Lexeme → List Lexeme
more_arguments [] ts = ts
more_arguments (p ∷ ps) ts = Sign mark.Comma ∷ passed p (more_arguments ps ts)

-- "void" | type-specifier ( "," type-specifier )*
abbrev pub arguments : List Passed → List Lexeme → List Lexeme
arguments [] ts = Word word.Void ∷ ts
arguments (p ∷ ps) ts = passed p (more_arguments ps ts)

-- procedure-def (RFC 5531 section 12.2)
abbrev pub procedure : Procedure → List Lexeme → List Lexeme
procedure p ts = result p.result
    (Name p.name ∷ Sign mark.OpenRound ∷ arguments p.arguments
    (Sign mark.CloseRound ∷ Sign mark.Equal ∷ Number p.number ∷ Sign mark.Semicolon ∷ ts))

-- procedure-def*
abbrev pub procedures : List Procedure → List Lexeme → List Lexeme
procedures [] ts = ts
procedures (p ∷ ps) ts = procedure p (procedures ps ts)

-- version-def (RFC 5531 section 12.2)
abbrev pub version : Version → List Lexeme → List Lexeme
version v ts = Word word.Version ∷ Name v.name ∷ Sign mark.OpenBrace ∷ procedures (v.first ∷ v.others)
    (Sign mark.CloseBrace ∷ Sign mark.Equal ∷ Number v.number ∷ Sign mark.Semicolon ∷ ts)

-- version-def*
abbrev pub versions : List Version → List Lexeme → List Lexeme
versions [] ts = ts
versions (v ∷ vs) ts = version v (versions vs ts)

-- constant-def | type-def | program-def
abbrev pub definition : Definition → List Lexeme → List Lexeme
definition (ConstantOf n v) ts = Word word.Const ∷ Name n ∷ Sign mark.Equal ∷ Number v ∷ Sign mark.Semicolon ∷ ts
definition (Typedef d) ts = Word word.Typedef ∷ declaration d (Sign mark.Semicolon ∷ ts)
definition (Defined n b) ts = body_word b ∷ Name n ∷ body b (Sign mark.Semicolon ∷ ts)
definition (ProgramOf p) ts = Word word.Program ∷ Name p.name ∷ Sign mark.OpenBrace ∷ versions (p.first ∷ p.others)
    (Sign mark.CloseBrace ∷ Sign mark.Equal ∷ Number p.number ∷ Sign mark.Semicolon ∷ ts)

-- definition*
abbrev pub specification : List Definition → List Lexeme
specification [] = []
specification (d ∷ ds) = definition d (specification ds)
