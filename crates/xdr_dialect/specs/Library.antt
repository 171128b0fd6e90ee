-- The names that rpcgen's library declares for C, as the kinds by which it sends them (own): 32-bit units but for those
-- of 64 bits; netobj has at most 1024 bytes, des_block 8. netbuf is the struct of RFC 1833 section 2.1.
use Rattle.std.specs.Prelude.{ℕ, pos, Bool, false, ◌&&◌, ◌||◌, not, List, [], ◌∷◌, ◌++◌, codes}
use Rattle.std.specs.Prelude.{if◌then◌else◌}
use Rattle.std.specs.List.{list_any}
use Rattle.xdr_tokens.specs.declared.token.Keyword.TheVariants as word
use Rattle.xdr_tokens.specs.declared.token.Mark.TheVariants as mark
use Rattle.xdr_tokens.specs.Tokens.{Lexeme, Word, Name, Number, Sign}
use Rattle.xdr_dialect.specs.declared.library.Meaning.{Meaning}
use Rattle.xdr_dialect.specs.declared.library.Meaning.TheVariants as meaning
use Rattle.xdr_dialect.specs.Tests.{is_word, is_sign, is_named, first_is, rest}

-- the definition of a name with this meaning
abbrev pub definition : Meaning → List ℕ → List Lexeme
definition meaning.Integer n = Word word.Typedef ∷ Word word.Int ∷ Name n ∷ Sign mark.Semicolon ∷ []
definition meaning.Natural n =
    Word word.Typedef ∷ Word word.Unsigned ∷ Word word.Int ∷ Name n ∷ Sign mark.Semicolon ∷ []
definition meaning.Hyper n = Word word.Typedef ∷ Word word.Hyper ∷ Name n ∷ Sign mark.Semicolon ∷ []
definition meaning.NaturalHyper n =
    Word word.Typedef ∷ Word word.Unsigned ∷ Word word.Hyper ∷ Name n ∷ Sign mark.Semicolon ∷ []
definition meaning.Flag n = Word word.Typedef ∷ Word word.Bool ∷ Name n ∷ Sign mark.Semicolon ∷ []
definition (meaning.Bytes size) n =
    Word word.Typedef ∷ Word word.Opaque ∷ Name n ∷ Sign mark.OpenBracket ∷ Number (pos size) ∷
    Sign mark.CloseBracket ∷ Sign mark.Semicolon ∷ []
definition (meaning.BytesUpTo size) n =
    Word word.Typedef ∷ Word word.Opaque ∷ Name n ∷ Sign mark.Less ∷ Number (pos size) ∷ Sign mark.Greater ∷
    Sign mark.Semicolon ∷ []
definition meaning.Netbuf n =
    Word word.Struct ∷ Name n ∷ Sign mark.OpenBrace ∷ Word word.Unsigned ∷ Word word.Int ∷ Name (codes "maxlen") ∷
    Sign mark.Semicolon ∷ Word word.Opaque ∷ Name (codes "buf") ∷ Sign mark.Less ∷ Sign mark.Greater ∷
    Sign mark.Semicolon ∷ Sign mark.CloseBrace ∷ Sign mark.Semicolon ∷ []
definition (meaning.Size size) n =
    Word word.Const ∷ Name n ∷ Sign mark.Equal ∷ Number (pos size) ∷ Sign mark.Semicolon ∷ []

-- a name of a typedef is followed by one of these
abbrev pub ends_name : List Lexeme → Bool
ends_name ts =
    first_is (is_sign mark.Semicolon) ts || first_is (is_sign mark.OpenBracket) ts || first_is (is_sign mark.Less) ts

-- struct, union, enum and const are followed by the name that they declare, where a body or = follows it
abbrev pub tags : Lexeme → Bool
tags t = is_word word.Struct t || is_word word.Union t || is_word word.Enum t || is_word word.Const t

abbrev pub begins_definition : List Lexeme → Bool
begins_definition ts =
    first_is (is_sign mark.OpenBrace) ts || first_is (is_word word.Switch) ts || first_is (is_sign mark.Equal) ts

-- inside a typedef, behind a token
abbrev pub typedef_after : Bool → Lexeme → Bool
typedef_after inside t = is_word word.Typedef t || (inside && not (is_sign mark.Semicolon t))

-- The tokens, inside a typedef or not, declare the name.
unfoldable pub declares_from : (inside : Bool) → List ℕ → List Lexeme → Bool
declares_from inside n [] = false
declares_from inside n (t ∷ ts) =
    (inside && is_named n t && ends_name ts) || (tags t && first_is (is_named n) ts && begins_definition (rest ts))
    || declares_from (typedef_after inside t) n ts

-- The tokens name it, and do not declare it.
abbrev pub lacks : List Lexeme → List ℕ → Bool
lacks ts n = list_any (is_named n) ts && not (declares_from false n ts)

-- the definition of a name, where tokens lack it
abbrev pub lacking_one : List Lexeme → Meaning → List ℕ → List Lexeme
lacking_one ts m n = if lacks ts n then definition m n else []

-- the definitions of those of the names that tokens lack
unfoldable pub lacking : List Lexeme → Meaning → List (List ℕ) → List Lexeme
lacking ts m [] = []
lacking ts m (n ∷ ns) = lacking_one ts m n ++ lacking ts m ns

-- int, in C of 8, 16 or 32 bits
abbrev pub integers : List (List ℕ)
integers = codes "char" ∷ codes "short" ∷ codes "int8_t" ∷ codes "int16_t" ∷ codes "int32_t" ∷ []

-- unsigned int
abbrev pub naturals : List (List ℕ)
naturals = codes "u_char" ∷ codes "u_short" ∷ codes "u_int" ∷ codes "u_long" ∷ codes "uint8_t" ∷ codes "uint16_t" ∷
    codes "uint32_t" ∷ codes "u_int8_t" ∷ codes "u_int16_t" ∷ codes "u_int32_t" ∷ codes "rpcprog_t" ∷
    codes "rpcvers_t" ∷ codes "rpcproc_t" ∷ []

-- hyper
abbrev pub hypers : List (List ℕ)
hypers = codes "int64_t" ∷ codes "quad_t" ∷ codes "longlong_t" ∷ []

-- unsigned hyper
abbrev pub natural_hypers : List (List ℕ)
natural_hypers = codes "uint64_t" ∷ codes "u_int64_t" ∷ codes "u_quad_t" ∷ codes "u_longlong_t" ∷ []

-- The definitions of the library's names that tokens lack; float is four bytes, double eight.
abbrev pub library : List Lexeme → List Lexeme
library ts =
    lacking ts meaning.Integer integers ++ lacking ts meaning.Natural naturals ++ lacking ts meaning.Hyper hypers
    ++ lacking ts meaning.NaturalHyper natural_hypers ++ lacking ts meaning.Flag (codes "bool_t" ∷ [])
    ++ lacking ts (meaning.Bytes 4) (codes "float" ∷ [])
    ++ lacking ts (meaning.Bytes 8) (codes "double" ∷ codes "des_block" ∷ [])
    ++ lacking ts (meaning.BytesUpTo 1024) (codes "netobj" ∷ []) ++ lacking ts meaning.Netbuf (codes "netbuf" ∷ [])
    ++ lacking ts (meaning.Size 255) (codes "MAXNETNAMELEN" ∷ [])
