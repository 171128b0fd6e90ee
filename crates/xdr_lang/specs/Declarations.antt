-- What a text declares (RFC 4506 section 6.4, RFC 5531 section 12.3).
use Rattle.std.specs.Prelude.{ℕ, ℤ, List, [], ◌∷◌, Option, Some, None, ◌==◌, if◌then◌else◌}
use Rattle.std.specs.Option.{option_or}
use Rattle.xdr_types.specs.Kinds.{Lists}

-- a constant: declared by const, or a member of an enum
pub record Constant : Type 0 where
  pub name : List ℕ
  pub value : ℤ

-- a procedure, with the places of the kinds of its arguments and of its result; no result is void
pub record Procedure : Type 0 where
  pub name : List ℕ
  pub number : ℕ
  pub arguments : List ℕ
  pub result : Option ℕ

-- a version of a program
pub record Version : Type 0 where
  pub name : List ℕ
  pub number : ℕ
  pub procedures : List Procedure

-- a program
pub record Program : Type 0 where
  pub name : List ℕ
  pub number : ℕ
  pub versions : List Version

-- the kinds and names of a text with the basic ones before them, its constants after TRUE and FALSE, its programs
pub record Declared : Type 0 where
  pub schema : Lists
  pub constants : List Constant
  pub programs : List Program

-- the procedure with that number
unfoldable pub procedure_numbered : ℕ → List Procedure → Option Procedure
procedure_numbered n [] = None
procedure_numbered n (p ∷ ps) = if p.number == n then Some p else procedure_numbered n ps

-- the procedure with that number in a version with that number
unfoldable pub procedure_of_version : ℕ → ℕ → List Version → Option Procedure
procedure_of_version v n [] = None
procedure_of_version v n (x ∷ xs) = if x.number == v then option_or (procedure_numbered n x.procedures)
    (procedure_of_version v n xs) else procedure_of_version v n xs

-- the same in a program with that number
unfoldable pub procedure_of_program : ℕ → ℕ → ℕ → List Program → Option Procedure
procedure_of_program p v n [] = None
procedure_of_program p v n (x ∷ xs) = if x.number == p then option_or (procedure_of_version v n x.versions)
    (procedure_of_program p v n xs) else procedure_of_program p v n xs
