-- Where in the grammar a token of rpcgen's dialect stands, as far as its meaning hangs on that.
use Rattle.std.specs.Prelude.{ℤ, pos, negsuc, ◌+ℤ◌, int_le, int_lt, true, false, ◌&&◌, Option, Some, None}
use Rattle.std.specs.Prelude.{if◌then◌else◌}
use Rattle.xdr_tokens.specs.declared.token.Keyword.TheVariants as word
use Rattle.xdr_tokens.specs.declared.token.Mark.TheVariants as mark
use Rattle.xdr_tokens.specs.Tokens.{Lexeme, Word, Name, Number, Sign}
use Rattle.xdr_dialect.specs.declared.scope.Scope.{Scope}
use Rattle.xdr_dialect.specs.declared.scope.Scope.TheVariants as scope
use Rattle.xdr_dialect.specs.Tests.{is_word, is_sign, is_name}

-- the number of a member behind one with this number
abbrev pub next_number : ℤ → Option ℤ
next_number n = if int_le (negsuc 2147483647) n && int_lt n (pos 2147483648) then Some (n +ℤ pos 1) else None

-- behind the value of a member
abbrev pub after_value : Lexeme → Scope
after_value (Word w) = scope.Elsewhere
after_value (Name n) = scope.Members None
after_value (Number n) = scope.Members (next_number n)
after_value (Sign m) = scope.Elsewhere

-- among arguments, behind a token of one
abbrev pub after_argument : Lexeme → Scope
after_argument t =
    if is_sign mark.CloseRound t then scope.Elsewhere else
    (if is_sign mark.OpenBrace t then scope.Elsewhere else
    (if is_sign mark.Comma t then scope.Argument false else
    (if is_word word.Struct t then scope.Argument false else scope.Argument true)))

-- behind a token that is neither enum nor switch
abbrev pub after_other : Scope → Lexeme → Scope
after_other scope.Elsewhere t = if is_sign mark.OpenRound t then scope.Argument false else scope.Elsewhere
after_other scope.Head t =
    if is_sign mark.OpenBrace t then scope.Members (Some (pos 0)) else
    (if is_name t then scope.Head else scope.Elsewhere)
after_other (scope.Members n) t =
    if is_sign mark.CloseBrace t then scope.Elsewhere else
    (if is_sign mark.Equal t then scope.Value else scope.Members n)
after_other scope.Value t = after_value t
after_other scope.Switch t = scope.Elsewhere
after_other (scope.Argument named) t = after_argument t
after_other scope.Constant t = if is_name t then scope.Constant else scope.Elsewhere

-- behind a token
abbrev pub scope_after : Scope → Lexeme → Scope
scope_after s t =
    if is_word word.Enum t then scope.Head else
    (if is_word word.Switch t then scope.Switch else after_other s t)
