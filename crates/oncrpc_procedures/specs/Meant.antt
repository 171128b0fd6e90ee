-- What the parts of a procedure's name mean (RFC 5531 section 12.3).
use Rattle.std.specs.Prelude.{ℕ, Bool, false, List, [], ◌∷◌, map, decimal, if◌then◌else◌}
use Rattle.std.specs.Char.{is_ascii_digit}
use Rattle.std.specs.List.{filter, flat_map}
use Rattle.std.specs.Str.{bytes_eq}
use Rattle.xdr_lang.specs.Declarations.{Procedure, Program, Version}

-- what means a program, a version of it, and a procedure of that
pub record Parts : Type 0 where
  pub program : List ℕ
  pub version : List ℕ
  pub procedure : List ℕ

-- a procedure, with the numbers of its program and its version
pub record Target : Type 0 where
  pub program : ℕ
  pub version : ℕ
  pub procedure : Procedure

abbrev pub begins_with_digit : List ℕ → Bool
begins_with_digit [] = false
begins_with_digit (b ∷ bs) = is_ascii_digit b

-- whether a part means what has this name and this number. A part that begins with a digit is the number in decimal,
-- and every other is the name, since no name begins with a digit (RFC 4506 section 6.2)
abbrev pub means : (part name : List ℕ) → (number : ℕ) → Bool
means part name number = if begins_with_digit part then bytes_eq part (decimal number) else bytes_eq part name

-- the programs that are meant, in text order
abbrev pub programs_meant : Parts → List Program → List Program
programs_meant p programs = filter (λ x. means p.program x.name x.number) programs

-- the versions of a program that are meant
abbrev pub versions_in : Parts → Program → List Version
versions_in p x = filter (λ v. means p.version v.name v.number) x.versions

-- the versions of these programs that are meant
abbrev pub versions_meant : Parts → List Program → List Version
versions_meant p programs = flat_map (versions_in p) (programs_meant p programs)

-- the procedures of a version of a program that are meant
abbrev pub targets_of : Parts → (program : ℕ) → Version → List Target
targets_of p program v =
    map (λ q. record { program = program; version = v.number; procedure = q })
    (filter (λ q. means p.procedure q.name q.number) v.procedures)

-- those of a program
abbrev pub targets_in : Parts → Program → List Target
targets_in p x = flat_map (targets_of p x.number) (versions_in p x)

-- the procedures that the parts mean, in text order
abbrev pub procedures_meant : Parts → List Program → List Target
procedures_meant p programs = flat_map (targets_in p) (programs_meant p programs)
