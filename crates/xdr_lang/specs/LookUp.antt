-- What the names of types stand for (RFC 4506 section 6.4).
use Rattle.std.specs.Prelude.{ℕ, zero, suc, ◌+◌, if◌then◌else◌, List, [], ◌∷◌, length, Option, Some, None}
use Rattle.std.specs.Str.{bytes_eq}
use Rattle.xdr_tokens.specs.Options.{◌>>=◌}
use Rattle.xdr_grammar.specs.declared.outline.Basic.{Basic}
use Rattle.xdr_grammar.specs.declared.outline.Basic.TheVariants as basic
use Rattle.xdr_grammar.specs.Outline.{Part, IsBasic, IsNamed, IsStruct, IsMade, IsStructMade}
use Rattle.xdr_grammar.specs.Outline.{IsText, IsVoid, Field}

-- where the basic schema has it
abbrev pub basic_place : Basic → ℕ
basic_place basic.Int = 0
basic_place basic.Unsigned = 1
basic_place basic.Hyper = 2
basic_place basic.UnsignedHyper = 3
basic_place basic.Bool = 4

-- what a type name was declared as, anywhere in the text
unfoldable pub type_named : List ℕ → List Field → Option Part
type_named n [] = None
type_named n (t ∷ ts) = if bytes_eq t.name n then Some t.part else type_named n ts

-- the kind of a struct's definition
abbrev pub struct_made : Part → Option ℕ
struct_made (IsStructMade k) = Some (8 + k)
struct_made p = None

-- The place that "struct" with a name denotes: that of the struct's definition, anywhere in the text. A name that is
-- declared as something else denotes none.
abbrev pub struct_place : List Field → List ℕ → Option ℕ
struct_place types n = type_named n types >>= struct_made

-- The place that a part denotes, where names denote theirs. The text's own kinds follow the eight basic ones.
abbrev pub place_with : List Field → (List ℕ → Option ℕ) → Part → Option ℕ
place_with types named (IsBasic b) = Some (basic_place b)
place_with types named (IsNamed n) = named n
place_with types named (IsStruct n) = struct_place types n
place_with types named (IsMade k) = Some (8 + k)
place_with types named (IsStructMade k) = Some (8 + k)
place_with types named IsText = Some 7
place_with types named IsVoid = Some 5

-- The place that a name denotes, through at most so many names. A chain of typedefs that doesn't end
-- goes through more names than there are.
unfoldable pub named_place : ℕ → List Field → List ℕ → Option ℕ
named_place zero types n = None
named_place (suc steps) types n = type_named n types >>= place_with types (named_place steps types)

-- the place that a part denotes
abbrev pub place_of : List Field → Part → Option ℕ
place_of types p = place_with types (named_place (length types) types) p
