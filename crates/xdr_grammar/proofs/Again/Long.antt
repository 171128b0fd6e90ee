-- Each item of a list has a token, so that a count of tokens is enough to read it.
use Rattle.std.proofs.Common.{ℕ, suc, ◌≤◌, ◌+◌, List, [], ◌∷◌, length, Option, Some, None, arith}
use Rattle.xdr_tokens.specs.declared.token.Mark.TheVariants as mark
use Rattle.xdr_grammar.specs.declared.outline.Basic.TheVariants as basic
use Rattle.xdr_tokens.specs.Tokens.{Lexeme, Name, Sign}
use Rattle.xdr_grammar.specs.Tree.{Value, Member, Specifier, Plain, Long, UnsignedLong, Named, StructNamed, Inline}
use Rattle.xdr_grammar.specs.Tree.{Body, EnumBody, StructBody, UnionBody, Declaration, One, Array, ArrayUpTo, Pointer}
use Rattle.xdr_grammar.specs.Tree.{Opaque, OpaqueUpTo, Text, Content, Void, Of, Fields, Last, More, Cases, LastCase}
use Rattle.xdr_grammar.specs.Tree.{MoreCases, Default, NoDefault, Otherwise}
use Rattle.xdr_grammar.specs.Grammar.{value, limit, members, cases, specifier, body, declaration, content, fields, arms}
use Rattle.xdr_grammar.specs.Grammar.{otherwise}

pub members_long : (ms : List Member) (ts : List Lexeme) → length ms + length ts ≤ length (members ms ts)
members_long [] ts = omega arith
members_long (m ∷ ms) ts = omega (arith, members_long ms ts)

pub cases_long : (vs : List Value) (ts : List Lexeme) → length vs + length ts ≤ length (cases vs ts)
cases_long [] ts = omega arith
cases_long (v ∷ vs) ts = omega (arith, cases_long vs ts)

abbrev pub count : Fields → ℕ
count (Last d) = 1
count (More d fs) = suc (count fs)

abbrev pub count_cases : Cases → ℕ
count_cases (LastCase v vs d) = 1
count_cases (MoreCases v vs d cs) = suc (count_cases cs)

limit_long : (v : Option Value) (ts : List Lexeme) → length ts ≤ length (limit v ts)
limit_long None ts = omega arith
limit_long (Some v) ts = omega arith

mutual
  pub specifier_long : (s : Specifier) (ts : List Lexeme) → suc (length ts) ≤ length (specifier s ts)
  specifier_long (Plain basic.Int) ts = omega arith
  specifier_long (Plain basic.Unsigned) ts = omega arith
  specifier_long (Plain basic.Hyper) ts = omega arith
  specifier_long (Plain basic.UnsignedHyper) ts = omega arith
  specifier_long (Plain basic.Bool) ts = omega arith
  specifier_long Long ts = omega arith
  specifier_long UnsignedLong ts = omega arith
  specifier_long (Named n) ts = omega arith
  specifier_long (StructNamed n) ts = omega arith
  specifier_long (Inline b) ts = omega (arith, body_long b ts)

  pub body_long : (b : Body) (ts : List Lexeme) → length ts ≤ length (body b ts)
  body_long (EnumBody m ms) ts = omega (arith, members_long ms (Sign mark.CloseBrace ∷ ts))
  body_long (StructBody fs) ts = omega (arith, fields_long fs (Sign mark.CloseBrace ∷ ts))
  body_long (UnionBody t cs d) ts = omega (
    arith,
    declaration_long t
        (Sign mark.CloseRound ∷ Sign mark.OpenBrace ∷ arms cs (otherwise d (Sign mark.CloseBrace ∷ ts))),
    arms_long cs (otherwise d (Sign mark.CloseBrace ∷ ts)),
    default_long d (Sign mark.CloseBrace ∷ ts),
  )

  pub declaration_long : (t : Declaration) (ts : List Lexeme) → length ts ≤ length (declaration t ts)
  declaration_long (One s n) ts = omega (arith, specifier_long s (Name n ∷ ts))
  declaration_long (Array s n v) ts = omega
      (arith, specifier_long s (Name n ∷ Sign mark.OpenBracket ∷ value v ∷ Sign mark.CloseBracket ∷ ts))
  declaration_long (ArrayUpTo s n v) ts = omega (
    arith,
    specifier_long s (Name n ∷ Sign mark.Less ∷ limit v (Sign mark.Greater ∷ ts)),
    limit_long v (Sign mark.Greater ∷ ts),
  )
  declaration_long (Pointer s n) ts = omega (arith, specifier_long s (Sign mark.Star ∷ Name n ∷ ts))
  declaration_long (Opaque n v) ts = omega arith
  declaration_long (OpaqueUpTo n v) ts = omega (arith, limit_long v (Sign mark.Greater ∷ ts))
  declaration_long (Text n v) ts = omega (arith, limit_long v (Sign mark.Greater ∷ ts))

  pub content_long : (m : Content) (ts : List Lexeme) → length ts ≤ length (content m ts)
  content_long Void ts = omega arith
  content_long (Of t) ts = declaration_long t ts

  pub fields_long : (fs : Fields) (ts : List Lexeme) → count fs + length ts ≤ length (fields fs ts)
  fields_long (Last d) ts = omega (arith, content_long d (Sign mark.Semicolon ∷ ts))
  fields_long (More d fs) ts = omega (arith, content_long d (Sign mark.Semicolon ∷ fields fs ts), fields_long fs ts)

  pub arms_long : (cs : Cases) (ts : List Lexeme) → count_cases cs + length ts ≤ length (arms cs ts)
  arms_long (LastCase v vs m) ts = omega (
    arith,
    cases_long vs (content m (Sign mark.Semicolon ∷ ts)),
    content_long m (Sign mark.Semicolon ∷ ts),
  )
  arms_long (MoreCases v vs m cs) ts = omega (
    arith,
    cases_long vs (content m (Sign mark.Semicolon ∷ arms cs ts)),
    content_long m (Sign mark.Semicolon ∷ arms cs ts),
    arms_long cs ts,
  )

  pub default_long : (d : Default) (ts : List Lexeme) → length ts ≤ length (otherwise d ts)
  default_long NoDefault ts = omega arith
  default_long (Otherwise m) ts = omega (arith, content_long m (Sign mark.Semicolon ∷ ts))
