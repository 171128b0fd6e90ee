-- The trees of definitions, a form for each production of the grammar (RFC 4506 section 6.3, RFC 5531 section 12.2;
-- long and struct NAME are words of RFC 1833's text).
use Rattle.std.specs.Prelude.{ℕ, ℤ, suc, max, List, [], ◌∷◌, Option, Some, None}
use Rattle.xdr_grammar.specs.declared.outline.Basic.{Basic}

-- constant | identifier
pub data Value : Type 0 where
  Literal : ℤ → Value
  Constant : List ℕ → Value

-- a member of an enum
pub record Member : Type 0 where
  pub name : List ℕ
  pub value : Value

mutual
  -- type-specifier; the floating-point types are left out
  pub data Specifier : Type 0 where
    Plain : Basic → Specifier
    Long : Specifier
    UnsignedLong : Specifier
    Named : List ℕ → Specifier
    StructNamed : List ℕ → Specifier
    Inline : Body → Specifier

  -- enum-body | struct-body | union-body
  pub data Body : Type 0 where
    EnumBody : (first : Member) → (others : List Member) → Body
    StructBody : Fields → Body
    UnionBody : (tag : Declaration) → Cases → Default → Body

  -- declaration, but not "void"
  pub data Declaration : Type 0 where
    One : Specifier → (name : List ℕ) → Declaration
    Array : Specifier → (name : List ℕ) → (size : Value) → Declaration
    ArrayUpTo : Specifier → (name : List ℕ) → (size : Option Value) → Declaration
    Pointer : Specifier → (name : List ℕ) → Declaration
    Opaque : (name : List ℕ) → (size : Value) → Declaration
    OpaqueUpTo : (name : List ℕ) → (size : Option Value) → Declaration
    Text : (name : List ℕ) → (size : Option Value) → Declaration

  -- a declaration, or void
  pub data Content : Type 0 where
    Void : Content
    Of : Declaration → Content

  -- one declaration or more
  pub data Fields : Type 0 where
    Last : Content → Fields
    More : Content → Fields → Fields

  -- CASES DECLARATION ;
  pub data Cases : Type 0 where
    LastCase : (first : Value) → (others : List Value) → Content → Cases
    MoreCases : (first : Value) → (others : List Value) → Content → Cases → Cases

  -- a default, or none
  pub data Default : Type 0 where
    NoDefault : Default
    Otherwise : Content → Default

-- an argument's or a result's type
pub data Passed : Type 0 where
  AnyText : Passed
  OfType : Specifier → Passed

-- procedure-def; None is "void"
pub record Procedure : Type 0 where
  pub result : Option Passed
  pub name : List ℕ
  pub arguments : List Passed
  pub number : ℤ

-- version-def
pub record Version : Type 0 where
  pub name : List ℕ
  pub first : Procedure
  pub others : List Procedure
  pub number : ℤ

-- program-def
pub record Program : Type 0 where
  pub name : List ℕ
  pub first : Version
  pub others : List Version
  pub number : ℤ

-- constant-def | type-def | program-def
pub data Definition : Type 0 where
  ConstantOf : (name : List ℕ) → ℤ → Definition
  Typedef : Declaration → Definition
  Defined : (name : List ℕ) → Body → Definition
  ProgramOf : Program → Definition

-- how many bodies of structs, unions and enums stand inside one another
abbrev mutual
  pub depth_of_specifier : Specifier → ℕ
  depth_of_specifier (Plain b) = 0
  depth_of_specifier Long = 0
  depth_of_specifier UnsignedLong = 0
  depth_of_specifier (Named n) = 0
  depth_of_specifier (StructNamed n) = 0
  depth_of_specifier (Inline b) = depth_of_body b

  pub depth_of_body : Body → ℕ
  depth_of_body (EnumBody m ms) = 1
  depth_of_body (StructBody fs) = suc (depth_of_fields fs)
  depth_of_body (UnionBody t cs d) = suc (max (depth_of_declaration t) (max (depth_of_cases cs) (depth_of_default d)))

  pub depth_of_declaration : Declaration → ℕ
  depth_of_declaration (One s n) = depth_of_specifier s
  depth_of_declaration (Array s n v) = depth_of_specifier s
  depth_of_declaration (ArrayUpTo s n v) = depth_of_specifier s
  depth_of_declaration (Pointer s n) = depth_of_specifier s
  depth_of_declaration (Opaque n v) = 0
  depth_of_declaration (OpaqueUpTo n v) = 0
  depth_of_declaration (Text n v) = 0

  pub depth_of_content : Content → ℕ
  depth_of_content Void = 0
  depth_of_content (Of d) = depth_of_declaration d

  pub depth_of_fields : Fields → ℕ
  depth_of_fields (Last d) = depth_of_content d
  depth_of_fields (More d fs) = max (depth_of_content d) (depth_of_fields fs)

  pub depth_of_cases : Cases → ℕ
  depth_of_cases (LastCase v vs d) = depth_of_content d
  depth_of_cases (MoreCases v vs d cs) = max (depth_of_content d) (depth_of_cases cs)

  pub depth_of_default : Default → ℕ
  depth_of_default NoDefault = 0
  depth_of_default (Otherwise d) = depth_of_content d

-- the same in an argument or a result
abbrev pub depth_of_passed : Passed → ℕ
depth_of_passed AnyText = 0
depth_of_passed (OfType s) = depth_of_specifier s

-- in all arguments
abbrev pub depth_of_arguments : List Passed → ℕ
depth_of_arguments [] = 0
depth_of_arguments (p ∷ ps) = max (depth_of_passed p) (depth_of_arguments ps)

-- in a result
abbrev pub depth_of_result : Option Passed → ℕ
depth_of_result None = 0
depth_of_result (Some p) = depth_of_passed p

-- in procedures
abbrev pub depth_of_procedures : List Procedure → ℕ
depth_of_procedures [] = 0
depth_of_procedures (p ∷ ps) = max (max (depth_of_result p.result) (depth_of_arguments p.arguments))
    (depth_of_procedures ps)

-- in versions
abbrev pub depth_of_versions : List Version → ℕ
depth_of_versions [] = 0
depth_of_versions (v ∷ vs) = max (depth_of_procedures (v.first ∷ v.others)) (depth_of_versions vs)

-- in a definition
abbrev pub depth_of_definition : Definition → ℕ
depth_of_definition (ConstantOf n v) = 0
depth_of_definition (Typedef d) = depth_of_declaration d
depth_of_definition (Defined n b) = depth_of_body b
depth_of_definition (ProgramOf p) = depth_of_versions (p.first ∷ p.others)

-- in all definitions
abbrev pub depth : List Definition → ℕ
depth [] = 0
depth (d ∷ ds) = max (depth_of_definition d) (depth ds)
