-- A part of a value as C sees it (RFC 4506 section 4).
use Rattle.std.specs.Prelude.{◌≡◌, ℕ, ◌+◌, ◌≤◌, List, [], ◌∷◌, ◌++◌, length, take, drop, ⊤}
use Rattle.xdr_types.specs.Kinds as xdr
use Rattle.xdr_types.specs.Kinds.{KindView, kind_at}
use Rattle.xdr_types.specs.Layout.{Entry, Role, of_number, of_flag, of_length, of_content, of_group}
use Rattle.c_values.specs.declared.part.ValuePart.{ValuePart}

-- the number of a role
abbrev pub role_number : Role → ℕ
role_number of_number = 1
role_number of_flag = 2
role_number of_length = 3
role_number (of_content count) = 4
role_number of_group = 5

-- the number of a type of XDR, in the order of the standard's sections (RFC 4506 sections 4.1 to 4.19)
abbrev pub type_number : KindView → ℕ
type_number xdr.int = 1
type_number xdr.unsigned = 2
type_number xdr.hyper = 3
type_number xdr.unsigned_hyper = 4
type_number xdr.boolean = 5
type_number (xdr.numbered members) = 6
type_number (xdr.opaque size) = 7
type_number (xdr.opaque_up_to max) = 8
type_number (xdr.text max) = 9
type_number (xdr.fixed item size) = 10
type_number (xdr.up_to item max) = 11
type_number (xdr.structure fields) = 12
type_number (xdr.choice tag arms other) = 13
type_number (xdr.maybe item) = 14
type_number xdr.nothing = 15
type_number xdr.unknown = 0

-- how many bytes a part has, content without the zeros after it (RFC 4506 section 3)
abbrev pub count_in : Role → (size : ℕ) → ℕ
count_in (of_content count) size = count
count_in of_number size = size
count_in of_flag size = size
count_in of_length size = size
count_in of_group size = size

-- C's part is this part of a value: its bytes lie in the input, and its name lies in the joined names, directly behind
-- those before it.
pub record IsPart (kinds : List KindView) (input names before : List ℕ) (e : Entry) (p : ValuePart) : Type 0 where
  pub at : p.at ≡ e.at
  pub count : p.count ≡ count_in e.role e.size
  pub within : p.at + p.count ≤ length input
  pub name_at : p.name_at ≡ length before
  pub name_count : p.name_count ≡ length e.name
  pub name : take p.name_count (drop p.name_at names) ≡ e.name
  pub depth : p.depth ≡ e.depth
  pub kind : p.kind ≡ e.kind
  pub xdr_type : p.xdr_type ≡ type_number (kind_at kinds e.kind)
  pub role : p.role ≡ role_number e.role

-- and so one by one, behind parts with these names
abbrev pub AreEach : List KindView → (input names before : List ℕ) → List Entry → List ValuePart → Type 0
AreEach kinds input names before [] [] = ⊤
AreEach kinds input names before (e ∷ es) (p ∷ ps) =
    IsPart kinds input names before e p × AreEach kinds input names (before ++ e.name) es ps
AreEach kinds input names before _ _ = ⊥
