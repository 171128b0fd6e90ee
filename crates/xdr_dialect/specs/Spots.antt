-- Where a byte of a text in rpcgen's dialect stands, and what is kept of it (own, after rpcgen's scanner).
use Rattle.std.specs.Prelude.{ℕ, ◌==◌, ◌||◌, Bool, true, false, if◌then◌else◌}
use Rattle.xdr_tokens.specs.Bytes.{is_space}
use Rattle.xdr_dialect.specs.declared.part.Part.{Part}
use Rattle.xdr_dialect.specs.declared.part.Part.TheVariants as part
use Rattle.xdr_dialect.specs.declared.spot.Spot.{Spot}
use Rattle.xdr_dialect.specs.declared.spot.Spot.TheVariants as spot

-- behind a byte of the text: a line begins after a line feed, a comment perhaps after /, what is quoted after "
abbrev pub after_text : ℕ → Spot
after_text b =
    if b == 10 then spot.Fresh else (if b == 47 then spot.Slash else (if b == 34 then spot.Quoted else spot.Text))

-- in a comment of a line of #, or behind the / of one
abbrev pub is_remark : Part → Bool
is_remark part.Words = false
is_remark part.Joint = false
is_remark part.Slash = true
is_remark part.Comment = true
is_remark part.Star = true

-- where the byte behind b stands in a line of #, as far as comments go
abbrev pub next_part : Part → ℕ → Part
next_part part.Words b = if b == 47 then part.Slash else part.Words
next_part part.Joint b = if b == 47 then part.Slash else part.Words
next_part part.Slash b = part.Comment
next_part part.Comment b = if b == 42 then part.Star else part.Comment
next_part part.Star b = if b == 47 then part.Words else (if b == 42 then part.Star else part.Comment)

-- behind a byte of a line of #, outside of its comments
abbrev pub after_words : ℕ → Spot
after_words b =
    if b == 10 then spot.Fresh else
    (if b == 92 then spot.Line part.Joint else spot.Line (next_part part.Words b))

-- Behind a byte of a line of #: it goes on over a line feed behind \ and in a comment, and // hides the rest of it.
abbrev pub after_line : Part → ℕ → Spot
after_line part.Words b = after_words b
after_line part.Joint b =
    if b == 10 then spot.Line part.Words else (if b == 13 then spot.Line part.Joint else after_words b)
after_line part.Slash b =
    if b == 42 then spot.Line part.Comment else (if b == 47 then spot.Hidden else after_words b)
after_line part.Comment b = spot.Line (next_part part.Comment b)
after_line part.Star b = spot.Line (next_part part.Star b)

-- Where the byte behind b stands. A line of % goes on over each line feed before which \ stands; no line begins in a
-- comment.
abbrev pub next_spot : Spot → ℕ → Spot
next_spot spot.Fresh b = if is_space b then spot.Fresh else (if b == 37 then spot.Hidden else after_text b)
next_spot spot.Hidden b = if b == 10 then spot.Fresh else (if b == 92 then spot.Escaped else spot.Hidden)
next_spot spot.Escaped b = if (b == 92) || (b == 13) then spot.Escaped else spot.Hidden
next_spot (spot.Line p) b = after_line p b
next_spot spot.Text b = after_text b
next_spot spot.Slash b = if b == 42 then spot.Comment else after_text b
next_spot spot.Comment b = if b == 42 then spot.Star else spot.Comment
next_spot spot.Star b = if b == 47 then spot.Text else (if b == 42 then spot.Star else spot.Comment)
next_spot spot.Quoted b = if b == 10 then spot.Fresh else (if b == 34 then spot.Text else spot.Quoted)

-- a blank for each byte but a line feed
abbrev pub blank : ℕ → ℕ
blank b = if b == 10 then 10 else 32

-- = in place of a quotation mark
abbrev pub unquoted : ℕ → ℕ
unquoted b = if b == 34 then 61 else b

-- What is kept of a byte where the text is shown: nothing of a line of % or #, nor of what is quoted.
abbrev pub kept : Spot → ℕ → ℕ
kept spot.Fresh b = if b == 37 then 32 else unquoted b
kept spot.Hidden b = blank b
kept spot.Escaped b = blank b
kept (spot.Line p) b = blank b
kept spot.Text b = unquoted b
kept spot.Slash b = unquoted b
kept spot.Comment b = b
kept spot.Star b = b
kept spot.Quoted b = if b == 34 then 61 else blank b

-- in a line of #
abbrev pub is_line : Spot → Bool
is_line (spot.Line p) = true
is_line spot.Fresh = false
is_line spot.Hidden = false
is_line spot.Escaped = false
is_line spot.Text = false
is_line spot.Slash = false
is_line spot.Comment = false
is_line spot.Star = false
is_line spot.Quoted = false

-- in a comment of a line of #
abbrev pub is_line_remark : Spot → Bool
is_line_remark (spot.Line part.Comment) = true
is_line_remark (spot.Line part.Star) = true
is_line_remark s = false
