-- What is wrong with the lists of a schema, and which of it is found first (RFC 4506 sections 4.3 to 4.19).
use Rattle.std.specs.Prelude.{◌<◌, ◌≤◌, take, slice_index_or, ◌≡◌, ℕ, ℤ, List, [], ◌∷◌, length, Bool, true, false, not}
use Rattle.std.specs.Prelude.{◌^◌, ◌&&◌, ◌||◌, ◌==◌, nat_le, Option, Some, None, if◌then◌else◌}
use Rattle.std.specs.List.{list_any}
use Rattle.std.specs.Str.{bytes_eq}
use Rattle.xdr_types.specs.Kinds as xdr
use Rattle.xdr_types.specs.Kinds.{KindView, Part, Branch, Constant, Lists, kind_at}
use Rattle.xdr_types.specs.Fits.{is_tag_of, is_listed, is_signed}
use Rattle.xdr_types.specs.Sound.{has_arm}
use Rattle.xdr_types.specs.declared.fault.Flaw.{Flaw}
use Rattle.xdr_types.specs.declared.fault.Flaw.TheVariants as flaw
use Rattle.xdr_types.specs.declared.fault.SchemaFault.{SchemaFault}

-- there is one, and it passes the test
abbrev pub some_optional : {A : Type 0} → (A → Bool) → Option A → Bool
some_optional test None = false
some_optional test (Some x) = test x

-- a list without elements
abbrev pub is_none : {A : Type 0} → List A → Bool
is_none [] = true
is_none (x ∷ xs) = false

-- some place that the kind names passes the test, its tag's left out
abbrev pub some_part : (ℕ → Bool) → KindView → Bool
some_part test (xdr.fixed item size) = test item
some_part test (xdr.up_to item max) = test item
some_part test (xdr.structure ps) = list_any (λ (p : Part). test p.kind) ps
some_part test (xdr.choice tag arms other) =
    list_any (λ (a : Branch). test a.part.kind) arms || some_optional (λ (p : Part). test p.kind) other
some_part test (xdr.maybe item) = test item
some_part test _ = false

-- a place outside the list of kinds
abbrev pub is_outside : List KindView → ℕ → Bool
is_outside kinds place = nat_le (length kinds) place

-- a kind that names a place outside the list, its discriminant included (fault 1)
abbrev pub has_unknown : List KindView → KindView → Bool
has_unknown kinds (xdr.choice tag arms other) =
    is_outside kinds tag || some_part (is_outside kinds) (xdr.choice tag arms other)
has_unknown kinds f = some_part (is_outside kinds) f

-- a fixed opaque or a fixed array of size 0 (fault 2; RFC 4506 sections 4.9, 4.12)
abbrev pub is_zero_size : KindView → Bool
is_zero_size (xdr.opaque size) = size == 0
is_zero_size (xdr.fixed item size) = size == 0
is_zero_size _ = false

-- the void kind (RFC 4506 section 4.16)
abbrev pub is_nothing : KindView → Bool
is_nothing xdr.nothing = true
is_nothing _ = false

-- a place at which the void kind stands
abbrev pub is_void : List KindView → ℕ → Bool
is_void kinds place = is_nothing (kind_at kinds place)

-- a kind with a void field or item; a union may have void parts (fault 3; RFC 4506 sections 4.14 to 4.16)
abbrev pub has_void : List KindView → KindView → Bool
has_void kinds (xdr.choice tag arms other) = false
has_void kinds f = some_part (is_void kinds) f

-- the kinds of a discriminant: int, unsigned int, bool, enumeration (RFC 4506 section 4.15)
abbrev pub is_tag : KindView → Bool
is_tag xdr.int = true
is_tag xdr.unsigned = true
is_tag xdr.boolean = true
is_tag (xdr.numbered constants) = true
is_tag _ = false

-- a union whose discriminant is of another kind (fault 4; RFC 4506 section 4.15)
abbrev pub has_bad_tag : List KindView → KindView → Bool
has_bad_tag kinds (xdr.choice tag arms other) = not (is_tag (kind_at kinds tag))
has_bad_tag kinds _ = false

-- a case stands twice in one list
abbrev pub case_twice : List ℤ → Bool
case_twice [] = false
case_twice (c ∷ cs) = is_listed cs c || case_twice cs

-- a case stands twice among the arms: within one, or in one and a later one
abbrev pub arms_case_twice : List Branch → Bool
arms_case_twice [] = false
arms_case_twice (a ∷ arms) = (case_twice a.cases || list_any (has_arm arms) a.cases) || arms_case_twice arms

-- a union with a case that stands twice (fault 5; RFC 4506 section 4.15)
abbrev pub has_case_twice : KindView → Bool
has_case_twice (xdr.choice tag arms other) = arms_case_twice arms
has_case_twice _ = false

-- a union with a case that is no number of its discriminant (fault 6; RFC 4506 section 4.15)
abbrev pub has_illegal_case : List KindView → KindView → Bool
has_illegal_case kinds (xdr.choice tag arms other) =
    list_any (λ (a : Branch). list_any (λ (z : ℤ). not (is_tag_of (kind_at kinds tag) z)) a.cases) arms
has_illegal_case kinds _ = false

-- a kind or an arm without entries (fault 9; RFC 4506 sections 4.3, 4.14, 4.15); an entry of an enumeration is a member
-- whose number is an int
abbrev pub has_empty_list : KindView → Bool
has_empty_list (xdr.numbered constants) = not (list_any (λ (c : Constant). is_signed (2 ^ 31) c.number) constants)
has_empty_list (xdr.structure ps) = is_none ps
has_empty_list (xdr.choice tag arms other) = is_none arms || list_any (λ (a : Branch). is_none a.cases) arms
has_empty_list _ = false

-- two members with one name
abbrev pub constant_twice : List Constant → Bool
constant_twice [] = false
constant_twice (c ∷ cs) = list_any (λ (d : Constant). bytes_eq c.name d.name) cs || constant_twice cs

-- two parts with one name
abbrev pub part_twice : List Part → Bool
part_twice [] = false
part_twice (p ∷ ps) = list_any (λ (q : Part). bytes_eq p.name q.name) ps || part_twice ps

-- two arms, or an arm and the default, with one name that is not empty
abbrev pub arm_twice : List Branch → Option Part → Bool
arm_twice [] other = false
arm_twice (a ∷ arms) other =
    (not (is_none a.part.name)
    && (list_any (λ (b : Branch). bytes_eq a.part.name b.part.name) arms
    || some_optional (λ (q : Part). bytes_eq a.part.name q.name) other))
    || arm_twice arms other

-- one name twice within a kind (fault 10; RFC 4506 sections 4.3, 4.14, 4.15)
abbrev pub has_name_twice : KindView → Bool
has_name_twice (xdr.numbered constants) = constant_twice constants
has_name_twice (xdr.structure ps) = part_twice ps
has_name_twice (xdr.choice tag arms other) = arm_twice arms other
has_name_twice _ = false

-- the number of a fault
abbrev pub fault_number : Flaw → ℕ
fault_number flaw.UnknownKind = 1
fault_number flaw.ZeroSize = 2
fault_number flaw.VoidMember = 3
fault_number flaw.BadDiscriminant = 4
fault_number flaw.CaseTwice = 5
fault_number flaw.CaseNotLegal = 6
fault_number flaw.NoFiniteValue = 7
fault_number flaw.TooManyKinds = 8
fault_number flaw.EmptyList = 9
fault_number flaw.NameTwice = 10
fault_number flaw.NoMemory = 11

-- the first flaw of a kind, in the order of their numbers
abbrev pub kind_flaw : List KindView → KindView → Option Flaw
kind_flaw kinds f =
    if has_unknown kinds f then Some flaw.UnknownKind else
    if is_zero_size f then Some flaw.ZeroSize else
    if has_void kinds f then Some flaw.VoidMember else
    if has_bad_tag kinds f then Some flaw.BadDiscriminant else
    if has_case_twice f then Some flaw.CaseTwice else
    if has_illegal_case kinds f then Some flaw.CaseNotLegal else
    if has_empty_list f then Some flaw.EmptyList else
    if has_name_twice f then Some flaw.NameTwice else None

-- the first flaw of a name: it names no kind, a void one, or stands among those before it
abbrev pub name_flaw : List KindView → List Part → Part → Option Flaw
name_flaw kinds before name =
    if is_outside kinds name.kind then Some flaw.UnknownKind else
    if is_void kinds name.kind then Some flaw.VoidMember else
    if list_any (λ (p : Part). bytes_eq p.name name.name) before then Some flaw.NameTwice else None

-- a fault at a place
abbrev pub fault : Flaw → ℕ → SchemaFault
fault why place = record { why = why; place = place }

-- the first flaw of the kind at a place
abbrev pub kind_flaw_at : List KindView → ℕ → Option Flaw
kind_flaw_at kinds place = kind_flaw kinds (kind_at kinds place)

-- the first flaw of the name at a place, by the names before it
abbrev pub name_flaw_at : List KindView → List Part → ℕ → Option Flaw
name_flaw_at kinds names place = name_flaw kinds (take place names)
    (slice_index_or names place (record { name = []; kind = 0 }))

-- no place below n has a flaw
abbrev pub AreFlawless : (ℕ → Option Flaw) → ℕ → Type 0
AreFlawless flaw n = (place : ℕ) → place < n → flaw place ≡ None

-- a schema is well formed where no fault applies anywhere: there are at most 1024 kinds, and no kind and no name has a
-- flaw
pub record IsWellFormed (s : Lists) : Type 0 where
  pub few : length s.kinds ≤ 1024
  pub kinds : AreFlawless (kind_flaw_at s.kinds) (length s.kinds)
  pub names : AreFlawless (name_flaw_at s.kinds s.names) (length s.names)
