-- What a text meant before long and struct NAME were words of the language, as RFC 4506 and RFC 5531 have it. Then long
-- was a name, no type was told by "struct" identifier, and a struct's definition declared its name as every other does.
use Rattle.std.specs.Prelude.{◌≡◌, ◌≤◌, ℕ, Bool, true, false, List, All, length, map, IfSome, filter, codes}
use Rattle.xdr_tokens.specs.declared.token.Keyword.{Keyword}
use Rattle.xdr_tokens.specs.declared.token.Keyword.TheVariants as word
use Rattle.xdr_tokens.specs.Tokens.{Lexeme, Word, Name}
use Rattle.xdr_tokens.specs.Keywords.{keywords, word_among, word_or_name}
use Rattle.xdr_tokens.specs.Text.{Tokens}
use Rattle.xdr_grammar.specs.Outline.{Part, IsStruct, IsMade, IsStructMade, Field, Arm, Draft, DNumbered, DOpaque}
use Rattle.xdr_grammar.specs.Outline.{DOpaqueUpTo, DText, DFixed, DUpTo, DStructure, DChoice, DMaybe, Procedure}
use Rattle.xdr_grammar.specs.Outline.{Version, Program, Outline}
use Rattle.xdr_grammar.specs.Spelled.{IsOutline}
use Rattle.xdr_lang.specs.Declarations.{Declared}
use Rattle.xdr_lang.specs.Means.{IsMeant, Means}

-- ---- long was a name

-- it was no keyword
abbrev pub was_keyword : Keyword → Bool
was_keyword word.Long = false
was_keyword w = true

-- the token that a token was
abbrev pub as_name : Lexeme → Lexeme
as_name (Word word.Long) = Name (codes "long")
as_name t = t

-- A keyword of today's list but long, or a name: that is what a run was.
abbrev pub LongWasAName : Type 0
LongWasAName = (run : List ℕ) → word_among (filter was_keyword keywords) run ≡ as_name (word_or_name run)

-- ---- no type was reported by "struct" identifier

-- another part
abbrev pub IsNoStruct : Part → Type 0
IsNoStruct (IsStruct n) = ⊥
IsNoStruct p = Unit {0}

-- a field of such a part
abbrev pub HasNoStruct : Field → Type 0
HasNoStruct f = IsNoStruct f.part

-- a kind of such parts
abbrev pub NoneInDraft : Draft → Type 0
NoneInDraft (DFixed p v) = IsNoStruct p
NoneInDraft (DUpTo p v) = IsNoStruct p
NoneInDraft (DStructure fs) = All HasNoStruct fs
NoneInDraft (DChoice t arms other) =
    IsNoStruct t × All (λ (a : Arm). HasNoStruct a.member) arms × IfSome other HasNoStruct
NoneInDraft (DMaybe p) = IsNoStruct p
NoneInDraft (DNumbered ms) = Unit {0}
NoneInDraft (DOpaque v) = Unit {0}
NoneInDraft (DOpaqueUpTo v) = Unit {0}
NoneInDraft (DText v) = Unit {0}

-- a procedure of such arguments and such a result
abbrev pub NoneInProcedure : Procedure → Type 0
NoneInProcedure p = All IsNoStruct p.arguments × IfSome p.result IsNoStruct

-- in a version
abbrev pub NoneInVersion : Version → Type 0
NoneInVersion v = All NoneInProcedure v.procedures

-- in a program
abbrev pub NoneInProgram : Program → Type 0
NoneInProgram p = All NoneInVersion p.versions

-- in all that definitions declare
abbrev pub NoneInOutline : Outline → Type 0
NoneInOutline o = All NoneInDraft o.drafts × All HasNoStruct o.types × All NoneInProgram o.programs

-- ---- a struct's definition declared its name as every other does

abbrev pub as_made : Part → Part
as_made (IsStructMade k) = IsMade k
as_made p = p

-- a type, as it was declared
abbrev pub type_before : Field → Field
type_before f = record f { part = as_made f.part }

-- what definitions declared
abbrev pub declared_before : Outline → Outline
declared_before o = record o { types = map type_before o.types }

-- ---- what a text meant

-- The text is not too long, is cut into tokens, with long as a name these spell definitions without "struct"
-- identifier, and what those declared has a meaning.
pub record MeantBefore (text : List ℕ) (d : Declared) : Type 0 where
  pub short : length text ≤ 262144
  pub tokens : List Lexeme
  pub cut : Tokens text tokens
  pub outline : Outline
  pub spelled : IsOutline (map as_name tokens) outline
  pub none : NoneInOutline outline
  pub meant : IsMeant (declared_before outline) d

-- No token of the text is long.
abbrev pub HasNoLong : List ℕ → Type 0
HasNoLong text = (ts : List Lexeme) → Tokens text ts → All (λ t. t ≡ Word word.Long → ⊥) ts

-- The text's definitions tell no type by "struct" identifier.
abbrev pub HasNoStructName : List ℕ → Type 0
HasNoStructName text = (ts : List Lexeme) (o : Outline) → Tokens text ts → IsOutline ts o → NoneInOutline o

-- A text without long means all that it meant, and one without "struct" identifier, too, means nothing else.
abbrev pub KeepsMeanings : Type 0
KeepsMeanings = (text : List ℕ) (d : Declared) → HasNoLong text
    → (MeantBefore text d → Means text d) × (HasNoStructName text → Means text d → MeantBefore text d)
