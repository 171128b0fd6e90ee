-- The first procedure that parts mean, as it is looked for.
use Rattle.std.specs.Prelude.{◌≡◌, ◌≢◌, ℕ, ◌==◌, Bool, ◌&&◌, List, [], ◌∷◌, Option, None, Some, if◌then◌else◌}
use Rattle.std.specs.List.{list_any}
use Rattle.std.specs.Option.{option_or}
use Rattle.std.specs.Str.{bytes_eq}
use Rattle.xdr_lang.specs.Declarations.{Procedure, Program, Version}
use Rattle.oncrpc_procedures.specs.declared.parts.Parts as declared
use Rattle.oncrpc_procedures.specs.declared.unnamed.Unnamed.{Unnamed}
use Rattle.oncrpc_procedures.specs.declared.unnamed.Unnamed.TheVariants as unnamed
use Rattle.oncrpc_procedures.specs.Meant.{Parts, Target, means, programs_meant, versions_meant}
use Rattle.oncrpc_procedures.specs.Names.{IsCut}
use Rattle.oncrpc_procedures.specs.Installed.{Installed}
use Rattle.oncrpc_procedures.specs.Unnamed.{IsFirstUnread}

-- the parts, without where they lie
abbrev pub parts_of : declared.Parts → Parts
parts_of p = record { program = p.program.now; version = p.version.now; procedure = p.procedure.now }

-- why a text has no three parts that are numbers or names
abbrev pub HasNoParts : (text : List ℕ) → Unnamed → Type 0
HasNoParts text unnamed.NotThreeParts = (p : Parts) → IsCut p text → ⊥
HasNoParts text (unnamed.NotANumber k) = (p : Parts) × IsCut p text × IsFirstUnread k p
HasNoParts text _ = ⊥

-- how far the parts mean something
abbrev pub IsFar : Parts → List Program → Unnamed → Type 0
IsFar p programs unnamed.NoProgram = programs_meant p programs ≡ []
IsFar p programs unnamed.NoVersion = (programs_meant p programs ≢ []) × (versions_meant p programs ≡ [])
IsFar p programs unnamed.NoProcedure = versions_meant p programs ≢ []
IsFar p programs _ = ⊥

-- whether the parts mean this program
abbrev pub means_program : Parts → Program → Bool
means_program p x = means p.program x.name x.number

-- and a version of it
abbrev pub means_version : Parts → Program → Bool
means_version p x = means_program p x && list_any (λ v. means p.version v.name v.number) x.versions

unfoldable pub first_procedure : Parts → (program version : ℕ) → List Procedure → Option Target
first_procedure p program version [] = None
first_procedure p program version (q ∷ qs) = if means p.procedure q.name q.number then Some
    (record { program = program; version = version; procedure = q }) else first_procedure p program version qs

unfoldable pub first_in_versions : Parts → (program : ℕ) → List Version → Option Target
first_in_versions p program [] = None
first_in_versions p program (v ∷ vs) = if means p.version v.name v.number then option_or
    (first_procedure p program v.number v.procedures) (first_in_versions p program vs) else first_in_versions p program
    vs

unfoldable pub first_in_programs : Parts → List Program → Option Target
first_in_programs p [] = None
first_in_programs p (x ∷ xs) = if means p.program x.name x.number then option_or
    (first_in_versions p x.number x.versions) (first_in_programs p xs) else first_in_programs p xs

-- the number of the first program of a name
unfoldable pub first_called : (name : List ℕ) → List Program → Option ℕ
first_called name [] = None
first_called name (x ∷ xs) = if bytes_eq name x.name then Some x.number else first_called name xs

-- and of the first version, of these and of the programs with a number
unfoldable pub first_version : (name : List ℕ) → List Version → Option ℕ
first_version name [] = None
first_version name (v ∷ vs) = if bytes_eq name v.name then Some v.number else first_version name vs

unfoldable pub first_version_of : (name : List ℕ) → (program : ℕ) → List Program → Option ℕ
first_version_of name program [] = None
first_version_of name program (x ∷ xs) = if x.number == program then option_or (first_version name x.versions)
    (first_version_of name program xs) else first_version_of name program xs

-- the text of the first row that a part means
unfoldable pub first_text : (part : List ℕ) → List Installed → Option (List ℕ)
first_text part [] = None
first_text part (r ∷ rs) = if means part r.name r.number then Some r.name else first_text part rs
