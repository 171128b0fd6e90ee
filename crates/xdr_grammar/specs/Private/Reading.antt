-- Reading the tokens from left to right: what each function of the parser gives.
use Rattle.std.specs.Prelude.{ℕ, zero, suc, Bool, true, false, List, [], ◌∷◌, length, Option, Some, None}
use Rattle.std.specs.Prelude.{if◌then◌else◌}
use Rattle.xdr_tokens.specs.declared.token.Keyword.TheVariants as word
use Rattle.xdr_tokens.specs.declared.token.Mark.TheVariants as mark
use Rattle.xdr_grammar.specs.declared.outline.Basic.TheVariants as basic
use Rattle.xdr_grammar.specs.declared.outline.BodyKind.{BodyKind}
use Rattle.xdr_grammar.specs.declared.outline.BodyKind.TheVariants as kind
use Rattle.xdr_tokens.specs.Options.{◌>>=◌}
use Rattle.xdr_tokens.specs.Tokens.{Lexeme}
use Rattle.xdr_grammar.specs.Outline.{Late, Given, Part, IsBasic, IsNamed, IsStruct, IsText, IsVoid, Field}
use Rattle.xdr_grammar.specs.Outline.{Arm, Draft, DNumbered, DOpaque, DOpaqueUpTo, DText, DFixed, DUpTo, DStructure}
use Rattle.xdr_grammar.specs.Outline.{DChoice, DMaybe, Procedure, Version, Outline, declare, place, by_struct, add}
use Rattle.xdr_grammar.specs.Outline.{add_type, add_program}
use Rattle.xdr_grammar.specs.Private.Taking.{taken, after_word, after_sign, name_at, value_at, size_at, limit_at}
use Rattle.xdr_grammar.specs.Private.Taking.{either_sign, numbered_at}

abbrev pub Reader : Type 0 → Type 0
Reader A = Outline → List Lexeme → Option (A × Outline × List Lexeme)

-- At most n items: step reads an item, and whether more follow.
unfoldable pub repeat : {A : Type 0} → Reader (A × Bool) → ℕ → Reader (List A)
repeat step zero o ts = None
repeat step (suc n) o ts = step o ts >>= λ x. if x.0.1 then
    (repeat step n x.1 x.2 >>= λ xs. Some (x.0.0 ∷ xs.0, xs.1, xs.2)) else Some (x.0.0 ∷ [], x.1, x.2)

-- ---- declarations

abbrev pub makes : List ℕ → Draft → Reader Field
makes name d o ts = Some (record { name = name; part = place o }, add d o, ts)

-- after opaque
unfoldable pub opaque_at : Reader Field
opaque_at o ts = name_at ts >>= λ n. taken (after_sign mark.OpenBracket n.1)
    (λ sized. size_at o sized >>= λ v. makes n.0 (DOpaque v.0) o v.1)
    (after_sign mark.Less n.1 >>= λ limited. limit_at o limited >>= λ v. makes n.0 (DOpaqueUpTo v.0) o v.1)

-- after string
unfoldable pub text_at : Reader Field
text_at o ts = do
  n ← name_at ts
  limited ← after_sign mark.Less n.1
  v ← limit_at o limited
  makes n.0 (DText v.0) o v.1

-- after a type specifier
unfoldable pub declared_at : Part → Reader Field
declared_at part o ts = taken (after_sign mark.Star ts)
    (λ starred. name_at starred >>= λ n. makes n.0 (DMaybe part) o n.1)
    (name_at ts >>= λ n. taken (after_sign mark.OpenBracket n.1)
    (λ sized. size_at o sized >>= λ v. makes n.0 (DFixed part v.0) o v.1)
    (taken (after_sign mark.Less n.1) (λ limited. limit_at o limited >>= λ v. makes n.0 (DUpTo part v.0) o v.1)
    (Some (record { name = n.0; part = part }, o, n.1))))

unfoldable pub declaration_with : Reader Part → Reader Field
declaration_with specifier o ts = taken (after_word word.Opaque ts) (λ rest. opaque_at o rest)
    (taken (after_word word.String ts) (λ rest. text_at o rest) (specifier o ts >>= λ s. declared_at s.0 s.1 s.2))

unfoldable pub content_with : Reader Field → Reader Field
content_with declaration o ts = taken (after_word word.Void ts)
    (λ rest. Some (record { name = []; part = IsVoid }, o, rest)) (declaration o ts)

-- after "int" or "long"
unfoldable pub int_at : List Lexeme → Option (List Lexeme)
int_at ts = taken (after_word word.Int ts) (λ rest. Some rest) (after_word word.Long ts)

unfoldable pub basic_at : List Lexeme → Option (Part × List Lexeme)
basic_at ts = taken (after_word word.Unsigned ts)
    (λ rest. taken (int_at rest) (λ more. Some (IsBasic basic.Unsigned, more))
    (after_word word.Hyper rest >>= λ more. Some (IsBasic basic.UnsignedHyper, more)))
    (taken (int_at ts) (λ rest. Some (IsBasic basic.Int, rest))
    (taken (after_word word.Hyper ts) (λ rest. Some (IsBasic basic.Hyper, rest))
    (taken (after_word word.Bool ts) (λ rest. Some (IsBasic basic.Bool, rest))
    (taken (after_word word.Struct ts) (λ rest. name_at rest >>= λ n. Some (IsStruct n.0, n.1))
    (name_at ts >>= λ n. Some (IsNamed n.0, n.1))))))

-- ---- bodies

-- NAME = VALUE, and , or }
unfoldable pub member_at : Reader ((List ℕ × Late) × Bool)
member_at o ts = do
  n ← name_at ts
  after ← after_sign mark.Equal n.1
  v ← value_at o after
  more ← either_sign mark.Comma mark.CloseBrace v.1
  Some (((n.0, v.0), more.0), declare n.0 v.0 false o, more.1)

unfoldable pub enum_at : Reader Part
enum_at o ts = do
  inner ← after_sign mark.OpenBrace ts
  ms ← repeat member_at (length inner) o inner
  Some (place ms.1, add (DNumbered ms.0) ms.1, ms.2)

unfoldable pub field_with : Reader Field → Reader (Field × Bool)
field_with content o ts = content o ts >>= λ f. after_sign mark.Semicolon f.2 >>= λ next. taken
    (after_sign mark.CloseBrace next) (λ rest. Some ((f.0, false), f.1, rest)) (Some ((f.0, true), f.1, next))

unfoldable pub struct_with : Reader Field → Reader Part
struct_with content o ts = do
  inner ← after_sign mark.OpenBrace ts
  fs ← repeat (field_with content) (length inner) o inner
  Some (place fs.1, add (DStructure fs.0) fs.1, fs.2)

-- after case
unfoldable pub case_at : Reader (Late × Bool)
case_at o ts = value_at o ts >>= λ v. after_sign mark.Colon v.1 >>= λ next. taken (after_word word.Case next)
    (λ rest. Some ((v.0, true), o, rest)) (Some ((v.0, false), o, next))

-- after the first case of an arm
unfoldable pub arm_with : Reader Field → Reader (Arm × Bool)
arm_with content o ts = repeat case_at (length ts) o ts >>= λ vs. content vs.1 vs.2 >>=
    λ m. after_sign mark.Semicolon m.2 >>= λ next. taken (after_word word.Case next)
    (λ rest. Some ((record { cases = vs.0; member = m.0 }, true), m.1, rest))
    (Some ((record { cases = vs.0; member = m.0 }, false), m.1, next))

unfoldable pub default_with : Reader Field → Reader (Option Field)
default_with content o ts = taken (after_word word.Default ts)
    (λ rest. after_sign mark.Colon rest >>= λ inner. content o inner >>= λ m. after_sign mark.Semicolon m.2 >>=
    λ next. Some (Some m.0, m.1, next)) (Some (None, o, ts))

-- switch ( DECLARATION ) { case
unfoldable pub switch_with : Reader Field → Reader Field
switch_with declaration o ts = do
  a ← after_word word.Switch ts
  b ← after_sign mark.OpenRound a
  tag ← declaration o b
  c ← after_sign mark.CloseRound tag.2
  d ← after_sign mark.OpenBrace c
  first ← after_word word.Case d
  Some (tag.0, tag.1, first)

unfoldable pub union_with : Reader Field → Reader Part
union_with declaration o ts = do
  tag ← switch_with declaration o ts
  arms ← repeat (arm_with (content_with declaration)) (length tag.2) tag.1 tag.2
  other ← default_with (content_with declaration) arms.1 arms.2
  rest ← after_sign mark.CloseBrace other.2
  Some (place other.1, add (DChoice tag.0.part arms.0 other.0) other.1, rest)

unfoldable pub body_word_at : List Lexeme → Option (BodyKind × List Lexeme)
body_word_at ts = taken (after_word word.Enum ts) (λ rest. Some (kind.Enum, rest))
    (taken (after_word word.Struct ts) (λ rest. Some (kind.Struct, rest))
    (after_word word.Union ts >>= λ rest. Some (kind.Union, rest)))

unfoldable pub body_with : Reader Field → BodyKind → Reader Part
body_with declaration kind.Enum o ts = enum_at o ts
body_with declaration kind.Struct o ts = struct_with (content_with declaration) o ts
body_with declaration kind.Union o ts = union_with declaration o ts

-- what follows "struct" and a name
abbrev pub named_struct_at : List Lexeme → Option (List ℕ × List Lexeme)
named_struct_at ts = after_word word.Struct ts >>= name_at

-- the same where a type specifier is due: "struct" and a name begin no body
unfoldable pub inner_word_at : List Lexeme → Option (BodyKind × List Lexeme)
inner_word_at ts = taken (named_struct_at ts) (λ n. None) (body_word_at ts)

-- a type specifier with at most so many bodies inside one another
unfoldable pub specifier_at : ℕ → Reader Part
specifier_at zero o ts = taken (inner_word_at ts) (λ k. None) (basic_at ts >>= λ b. Some (b.0, o, b.1))
specifier_at (suc d) o ts = taken (inner_word_at ts) (λ k. body_with (declaration_with (specifier_at d)) k.0 o k.1)
    (basic_at ts >>= λ b. Some (b.0, o, b.1))

-- ---- programs

unfoldable pub passed_with : Reader Part → Reader Part
passed_with specifier o ts = taken (after_word word.String ts) (λ rest. Some (IsText, o, rest)) (specifier o ts)

-- an argument, and , or )
unfoldable pub argument_with : Reader Part → Reader (Part × Bool)
argument_with specifier o ts = do
  p ← passed_with specifier o ts
  more ← either_sign mark.Comma mark.CloseRound p.2
  Some ((p.0, more.0), p.1, more.1)

-- after (
unfoldable pub arguments_with : Reader Part → Reader (List Part)
arguments_with specifier o ts = taken (after_word word.Void ts)
    (λ rest. after_sign mark.CloseRound rest >>= λ next. Some ([], o, next))
    (repeat (argument_with specifier) (length ts) o ts)

unfoldable pub result_with : Reader Part → Reader (Option Part)
result_with specifier o ts = taken (after_word word.Void ts) (λ rest. Some (None, o, rest))
    (passed_with specifier o ts >>= λ p. Some (Some p.0, p.1, p.2))

unfoldable pub procedure_with : Reader Part → Reader (Procedure × Bool)
procedure_with specifier o ts = result_with specifier o ts >>= λ r. name_at r.2 >>=
    λ n. after_sign mark.OpenRound n.1 >>= λ inner. arguments_with specifier r.1 inner >>= λ a. numbered_at a.2 >>= λ v.
    taken (after_sign mark.CloseBrace v.1)
    (λ rest. Some ((record { name = n.0; number = v.0; arguments = a.0; result = r.0 }, false), a.1, rest))
    (Some ((record { name = n.0; number = v.0; arguments = a.0; result = r.0 }, true), a.1, v.1))

unfoldable pub version_with : Reader Part → Reader (Version × Bool)
version_with specifier o ts = after_word word.Version ts >>= λ begun. name_at begun >>=
    λ n. after_sign mark.OpenBrace n.1 >>= λ inner. repeat (procedure_with specifier) (length inner) o inner >>=
    λ ps. numbered_at ps.2 >>= λ v.
    taken (after_sign mark.CloseBrace v.1)
    (λ rest. Some ((record { name = n.0; number = v.0; procedures = ps.0 }, false), ps.1, rest))
    (Some ((record { name = n.0; number = v.0; procedures = ps.0 }, true), ps.1, v.1))

-- ---- definitions

abbrev pub Definer : Type 0
Definer = Outline → List Lexeme → Option (Outline × List Lexeme)

-- after program
unfoldable pub program_with : Reader Part → Definer
program_with specifier o ts = do
  n ← name_at ts
  inner ← after_sign mark.OpenBrace n.1
  vs ← repeat (version_with specifier) (length inner) o inner
  v ← numbered_at vs.2
  Some (add_program (record { name = n.0; number = v.0; versions = vs.0 }) vs.1, v.1)

-- after const
unfoldable pub const_at : Definer
const_at o ts = do
  n ← name_at ts
  v ← numbered_at n.1
  Some (declare n.0 (Given v.0) true o, v.1)

-- after typedef
unfoldable pub typedef_with : Reader Field → Definer
typedef_with declaration o ts = do
  f ← declaration o ts
  rest ← after_sign mark.Semicolon f.2
  Some (add_type f.0 f.1, rest)

-- what the definition declares its name as
abbrev pub defined_part : BodyKind → Part → Part
defined_part kind.Struct p = by_struct p
defined_part kind.Enum p = p
defined_part kind.Union p = p

-- an enum, a struct or a union with its name
unfoldable pub defined_with : Reader Field → Definer
defined_with declaration o ts = do
  k ← body_word_at ts
  n ← name_at k.1
  p ← body_with declaration k.0 o n.1
  rest ← after_sign mark.Semicolon p.2
  Some (add_type (record { name = n.0; part = defined_part k.0 p.0 }) p.1, rest)

unfoldable pub definition_at : Definer
definition_at o ts = taken (after_word word.Const ts) (λ rest. const_at o rest)
    (taken (after_word word.Typedef ts) (λ rest. typedef_with (declaration_with (specifier_at 32)) o rest)
    (taken (after_word word.Program ts) (λ rest. program_with (specifier_at 32) o rest)
    (defined_with (declaration_with (specifier_at 31)) o ts)))

-- at most so many definitions, to the end
unfoldable pub definitions_at : ℕ → Outline → List Lexeme → Option Outline
definitions_at n o [] = Some o
definitions_at zero o (t ∷ ts) = None
definitions_at (suc n) o (t ∷ ts) = definition_at o (t ∷ ts) >>= λ x. definitions_at n x.0 x.1
