-- Tokens of the examples, and what they declare.
use Rattle.std.specs.Prelude.{ℕ, zero, suc, pos, List, [], ◌∷◌, codes}
use Rattle.xdr_tokens.specs.declared.token.Keyword.TheVariants as word
use Rattle.xdr_tokens.specs.declared.token.Mark.TheVariants as mark
use Rattle.xdr_tokens.specs.Tokens.{Lexeme, Word, Name, Number, Sign}
use Rattle.xdr_grammar.specs.Outline as out
use Rattle.xdr_grammar.specs.declared.outline.Basic.TheVariants as basic

-- typedef int a; typedef bool b;
abbrev pub two_typedefs : List Lexeme
two_typedefs =
    Word word.Typedef ∷ Word word.Int ∷ Name (codes "a") ∷ Sign mark.Semicolon
    ∷ Word word.Typedef ∷ Word word.Bool ∷ Name (codes "b") ∷ Sign mark.Semicolon ∷ []

-- typedef struct s t;
abbrev pub typedef_of_a_struct : List Lexeme
typedef_of_a_struct =
    Word word.Typedef ∷ Word word.Struct ∷ Name (codes "s") ∷ Name (codes "t") ∷ Sign mark.Semicolon ∷ []

-- enum e { A = 1 };
abbrev pub enumeration : List Lexeme
enumeration =
    Word word.Enum ∷ Name (codes "e") ∷ Sign mark.OpenBrace ∷ Name (codes "A") ∷ Sign mark.Equal
    ∷ Number (pos 1) ∷ Sign mark.CloseBrace ∷ Sign mark.Semicolon ∷ []

-- union u switch (int d) { case 1: case 2: int a; case 3: void; default: bool b; };
abbrev pub union_tokens : List Lexeme
union_tokens =
    Word word.Union ∷ Name (codes "u") ∷ Word word.Switch ∷ Sign mark.OpenRound ∷ Word word.Int
    ∷ Name (codes "d") ∷ Sign mark.CloseRound ∷ Sign mark.OpenBrace
    ∷ Word word.Case ∷ Number (pos 1) ∷ Sign mark.Colon ∷ Word word.Case ∷ Number (pos 2) ∷ Sign mark.Colon
    ∷ Word word.Int ∷ Name (codes "a") ∷ Sign mark.Semicolon
    ∷ Word word.Case ∷ Number (pos 3) ∷ Sign mark.Colon ∷ Word word.Void ∷ Sign mark.Semicolon
    ∷ Word word.Default ∷ Sign mark.Colon ∷ Word word.Bool ∷ Name (codes "b") ∷ Sign mark.Semicolon
    ∷ Sign mark.CloseBrace ∷ Sign mark.Semicolon ∷ []

-- a name, and what it is declared as
abbrev pub named : List ℕ → out.Part → out.Field
named n p = record { name = n; part = p }

-- the arms of that union: a void arm has the empty name
abbrev pub union_arms : List out.Arm
union_arms =
    (record {
      cases = out.Given (pos 1) ∷ out.Given (pos 2) ∷ [];
      member = named (codes "a") (out.IsBasic basic.Int);
    })
    ∷ (record { cases = out.Given (pos 3) ∷ []; member = named [] out.IsVoid }) ∷ []

-- int inside so many bodies of structs, each a field a of the next
abbrev pub bodies : ℕ → List Lexeme → List Lexeme
bodies zero ts = Word word.Int ∷ ts
bodies (suc n) ts =
    Word word.Struct ∷ Sign mark.OpenBrace
    ∷ bodies n (Name (codes "a") ∷ Sign mark.Semicolon ∷ Sign mark.CloseBrace ∷ ts)

-- typedef, that, and a name
abbrev pub typedef_of_bodies : ℕ → List Lexeme
typedef_of_bodies n = Word word.Typedef ∷ bodies n (Name (codes "t") ∷ Sign mark.Semicolon ∷ [])
