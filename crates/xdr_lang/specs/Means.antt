-- What a text means.
use Rattle.std.specs.Prelude.{◌≡◌, ◌≤◌, ℕ, List, length, Some, false}
use Rattle.xdr_tokens.specs.Tokens.{Lexeme}
use Rattle.xdr_tokens.specs.Text.{Tokens}
use Rattle.xdr_grammar.specs.Outline.{Outline}
use Rattle.xdr_grammar.specs.Spelled.{IsOutline}
use Rattle.xdr_types.specs.Faults.{IsWellFormed}
use Rattle.xdr_types.specs.Sound.{IsSound}
use Rattle.xdr_lang.specs.Declarations.{Declared}
use Rattle.xdr_lang.specs.Distinct.{has_twice}
use Rattle.xdr_lang.specs.Meaning.{meaning}

-- The names of an outline differ and stand for something, and its kinds are a schema.
pub record IsMeant (outline : Outline) (d : Declared) : Type 0 where
  pub distinct : has_twice outline ≡ false
  pub meant : meaning outline ≡ Some d
  pub well_formed : IsWellFormed d.schema
  pub sound : IsSound d.schema.kinds

-- The text is not too long, is cut into tokens, these spell definitions, and the definitions have a meaning
-- (RFC 4506 section 6, RFC 5531 section 12).
pub record Means (text : List ℕ) (d : Declared) : Type 0 where
  pub short : length text ≤ 262144
  pub tokens : List Lexeme
  pub cut : Tokens text tokens
  pub outline : Outline
  pub spelled : IsOutline tokens outline
  pub meant : IsMeant outline d

-- A text means one thing at most.
abbrev pub HasOneMeaning : Type 0
HasOneMeaning = (text : List ℕ) (d e : Declared) → Means text d → Means text e → d ≡ e
