-- What a tree declares (RFC 4506 section 6.4), in the order in which its parts end, with names in place of what they
-- stand for.
use Rattle.std.specs.Prelude.{ℕ, ℤ, Bool, true, false, List, [], ◌∷◌, ◌++◌, length, map, Option, Some, None, option_map}
use Rattle.xdr_grammar.specs.declared.outline.Basic.{Basic}
use Rattle.xdr_grammar.specs.declared.outline.Basic.TheVariants as basic
use Rattle.xdr_grammar.specs.Tree as tree
use Rattle.xdr_grammar.specs.Tree.{Value, Literal, Constant, Member, Specifier, Plain, Long, UnsignedLong, Named}
use Rattle.xdr_grammar.specs.Tree.{StructNamed, Inline, Body, EnumBody}
use Rattle.xdr_grammar.specs.Tree.{StructBody, UnionBody, Declaration, One, Array, ArrayUpTo, Pointer, Opaque}
use Rattle.xdr_grammar.specs.Tree.{OpaqueUpTo, Text, Content, Void, Of, Fields, Last, More, Cases, LastCase, MoreCases}
use Rattle.xdr_grammar.specs.Tree.{Default, NoDefault, Otherwise, Passed, AnyText, OfType, Definition, ConstantOf}
use Rattle.xdr_grammar.specs.Tree.{Typedef, Defined, ProgramOf}

-- a number, or a name among so many constants that are declared before it
pub data Late : Type 0 where
  Given : ℤ → Late
  Earlier : (name : List ℕ) → (before : ℕ) → Late

-- what a type specifier or a declaration stands for
pub data Part : Type 0 where
  IsBasic : Basic → Part
  IsNamed : List ℕ → Part
  -- "struct" identifier
  IsStruct : (name : List ℕ) → Part
  IsMade : (place : ℕ) → Part
  -- made by a definition "struct" identifier struct-body
  IsStructMade : (place : ℕ) → Part
  IsText : Part
  IsVoid : Part

-- a declaration: a name, and what it is declared as; void has the empty name
pub record Field : Type 0 where
  pub name : List ℕ
  pub part : Part

-- a constant, and whether const declares it
pub record Entry : Type 0 where
  pub name : List ℕ
  pub value : Late
  pub by_const : Bool

-- the cases of an arm, and what it is
pub record Arm : Type 0 where
  pub cases : List Late
  pub member : Field

-- a kind with names in place of what they stand for
pub data Draft : Type 0 where
  DNumbered : List (List ℕ × Late) → Draft
  DOpaque : Late → Draft
  DOpaqueUpTo : Option Late → Draft
  DText : Option Late → Draft
  DFixed : Part → Late → Draft
  DUpTo : Part → Option Late → Draft
  DStructure : List Field → Draft
  DChoice : (tag : Part) → List Arm → Option Field → Draft
  DMaybe : Part → Draft

-- a procedure; no result is void
pub record Procedure : Type 0 where
  pub name : List ℕ
  pub number : ℤ
  pub arguments : List Part
  pub result : Option Part

-- a version of a program
pub record Version : Type 0 where
  pub name : List ℕ
  pub number : ℤ
  pub procedures : List Procedure

-- a program
pub record Program : Type 0 where
  pub name : List ℕ
  pub number : ℤ
  pub versions : List Version

-- constants in text order, kinds in the order in which their spellings end, types and programs in text order
pub record Outline : Type 0 where
  pub constants : List Entry
  pub drafts : List Draft
  pub types : List Field
  pub programs : List Program

-- a value, where the constants so far are declared before it
abbrev pub late : Outline → Value → Late
late o (Literal v) = Given v
late o (Constant n) = Earlier n (length o.constants)

-- one more constant
abbrev pub declare : List ℕ → Late → Bool → Outline → Outline
declare n v by_const o =
    record o { constants = o.constants ++ (record { name = n; value = v; by_const = by_const }) ∷ [] }

-- the next kind
abbrev pub place : Outline → Part
place o = IsMade (length o.drafts)

-- what a definition with that body declares its name as: the kind of a struct's is reported by "struct" too
abbrev pub by_struct : Part → Part
by_struct (IsMade k) = IsStructMade k
by_struct p = p

abbrev pub defined_as : Body → Part → Part
defined_as (StructBody fs) p = by_struct p
defined_as (EnumBody m ms) p = p
defined_as (UnionBody t cs d) p = p

-- one more kind
abbrev pub add : Draft → Outline → Outline
add d o = record o { drafts = o.drafts ++ d ∷ [] }

-- one more type
abbrev pub add_type : Field → Outline → Outline
add_type f o = record o { types = o.types ++ f ∷ [] }

-- one more program
abbrev pub add_program : Program → Outline → Outline
add_program p o = record o { programs = o.programs ++ p ∷ [] }

-- a declaration that spells a kind
abbrev pub made : List ℕ → Draft → Outline → Field × Outline
made n d o = (record { name = n; part = place o }, add d o)

-- Each member is a constant.
abbrev pub members_in : List Member → Outline → List (List ℕ × Late) × Outline
members_in [] o = ([], o)
members_in (m ∷ ms) o =
    let v = late o m.value in
    let rest = members_in ms (declare m.name v false o) in
    ((m.name, v) ∷ rest.0, rest.1)

abbrev mutual
  -- what a type specifier stands for, and what it declares
  pub specifier_in : Specifier → Outline → Part × Outline
  specifier_in (Plain b) o = (IsBasic b, o)
  specifier_in Long o = (IsBasic basic.Int, o)
  specifier_in UnsignedLong o = (IsBasic basic.Unsigned, o)
  specifier_in (Named n) o = (IsNamed n, o)
  specifier_in (StructNamed n) o = (IsStruct n, o)
  specifier_in (Inline b) o = body_in b o

  -- A body ends at its }, after all that is inside it.
  pub body_in : Body → Outline → Part × Outline
  body_in (EnumBody m ms) o = let all = members_in (m ∷ ms) o in (place all.1, add (DNumbered all.0) all.1)
  body_in (StructBody fs) o = let all = fields_in fs o in (place all.1, add (DStructure all.0) all.1)
  body_in (UnionBody t cs d) o =
      let tag = declaration_in t o in
      let all = arms_in cs tag.1 in
      let other = default_in d all.1 in
      (place other.1, add (DChoice tag.0.part all.0 other.0) other.1)

  -- An array, an opaque or a string ends at its bracket, a pointer at its name.
  pub declaration_in : Declaration → Outline → Field × Outline
  declaration_in (One s n) o = let item = specifier_in s o in (record { name = n; part = item.0 }, item.1)
  declaration_in (Array s n v) o = let item = specifier_in s o in made n (DFixed item.0 (late item.1 v)) item.1
  declaration_in (ArrayUpTo s n v) o = let item = specifier_in s o in
      made n (DUpTo item.0 (option_map (late item.1) v)) item.1
  declaration_in (Pointer s n) o = let item = specifier_in s o in made n (DMaybe item.0) item.1
  declaration_in (Opaque n v) o = made n (DOpaque (late o v)) o
  declaration_in (OpaqueUpTo n v) o = made n (DOpaqueUpTo (option_map (late o) v)) o
  declaration_in (Text n v) o = made n (DText (option_map (late o) v)) o

  -- void has the empty name
  pub content_in : Content → Outline → Field × Outline
  content_in Void o = (record { name = []; part = IsVoid }, o)
  content_in (Of d) o = declaration_in d o

  -- one after another
  pub fields_in : Fields → Outline → List Field × Outline
  fields_in (Last d) o = let f = content_in d o in (f.0 ∷ [], f.1)
  fields_in (More d fs) o =
      let f = content_in d o in
      let rest = fields_in fs f.1 in
      (f.0 ∷ rest.0, rest.1)

  -- The values of an arm come before what it is.
  pub arms_in : Cases → Outline → List Arm × Outline
  arms_in (LastCase v vs d) o = let m = content_in d o in
      ((record { cases = map (late o) (v ∷ vs); member = m.0 }) ∷ [], m.1)
  arms_in (MoreCases v vs d cs) o =
      let m = content_in d o in
      let rest = arms_in cs m.1 in
      ((record { cases = map (late o) (v ∷ vs); member = m.0 }) ∷ rest.0, rest.1)

  -- the default, where there is one
  pub default_in : Default → Outline → Option Field × Outline
  default_in NoDefault o = (None, o)
  default_in (Otherwise d) o = let f = content_in d o in (Some f.0, f.1)

-- ---- programs

-- "string" alone stands for the string of any length
abbrev pub passed_in : Passed → Outline → Part × Outline
passed_in AnyText o = (IsText, o)
passed_in (OfType s) o = specifier_in s o

-- one after another
abbrev pub arguments_in : List Passed → Outline → List Part × Outline
arguments_in [] o = ([], o)
arguments_in (p ∷ ps) o =
    let a = passed_in p o in
    let rest = arguments_in ps a.1 in
    (a.0 ∷ rest.0, rest.1)

-- the result, where there is one
abbrev pub result_in : Option Passed → Outline → Option Part × Outline
result_in None o = (None, o)
result_in (Some p) o = let r = passed_in p o in (Some r.0, r.1)

-- The result comes before the arguments.
abbrev pub procedure_in : tree.Procedure → Outline → Procedure × Outline
procedure_in p o =
    let r = result_in p.result o in
    let a = arguments_in p.arguments r.1 in
    (record { name = p.name; number = p.number; arguments = a.0; result = r.0 }, a.1)

-- one after another
abbrev pub procedures_in : List tree.Procedure → Outline → List Procedure × Outline
procedures_in [] o = ([], o)
procedures_in (p ∷ ps) o =
    let first = procedure_in p o in
    let rest = procedures_in ps first.1 in
    (first.0 ∷ rest.0, rest.1)

-- a version with its procedures
abbrev pub version_in : tree.Version → Outline → Version × Outline
version_in v o =
    let all = procedures_in (v.first ∷ v.others) o in
    (record { name = v.name; number = v.number; procedures = all.0 }, all.1)

-- one after another
abbrev pub versions_in : List tree.Version → Outline → List Version × Outline
versions_in [] o = ([], o)
versions_in (v ∷ vs) o =
    let first = version_in v o in
    let rest = versions_in vs first.1 in
    (first.0 ∷ rest.0, rest.1)

-- A type is declared once its kinds are there.
abbrev pub definition_in : Definition → Outline → Outline
definition_in (ConstantOf n v) o = declare n (Given v) true o
definition_in (Typedef d) o = let f = declaration_in d o in add_type f.0 f.1
definition_in (Defined n b) o = let p = body_in b o in add_type (record { name = n; part = defined_as b p.0 }) p.1
definition_in (ProgramOf p) o =
    let all = versions_in (p.first ∷ p.others) o in
    add_program (record { name = p.name; number = p.number; versions = all.0 }) all.1

-- what definitions declare, after what was there
abbrev pub outlined : List Definition → Outline → Outline
outlined [] o = o
outlined (d ∷ ds) o = outlined ds (definition_in d o)

-- before the first definition
abbrev pub nothing : Outline
nothing = record { constants = []; drafts = []; types = []; programs = [] }
