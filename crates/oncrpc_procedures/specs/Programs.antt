-- The name of a program, or of a version of one: PROGRAM or PROGRAM.VERSION, each a number or a name (RFC 5531 section
-- 12.3).
use Rattle.std.specs.Prelude.{◌≡◌, ◌⊎◌, ℕ, ◌<◌, ◌^◌, ◌==◌, false, List, ◌∷◌, ◌++◌, decimal, find, Option, None, Some}
use Rattle.std.specs.Prelude.{IfSome, IsSomeAnd, option_map}
use Rattle.std.specs.List.{filter, flat_map}
use Rattle.std.specs.Str.{bytes_eq}
use Rattle.xdr_units.specs.Texts.{HasNoDot}
use Rattle.xdr_lang.specs.Declarations.{Program, Version}
use Rattle.oncrpc_procedures.specs.declared.program.NamedProgram.{NamedProgram}
use Rattle.oncrpc_procedures.specs.declared.unnamed_program.UnnamedProgram.{UnnamedProgram}
use Rattle.oncrpc_procedures.specs.declared.unnamed_program.UnnamedProgram.TheVariants as unnamed
use Rattle.oncrpc_procedures.specs.Meant.{begins_with_digit}
use Rattle.oncrpc_procedures.specs.Names.{IsNoNumber}

-- what means a program, and what means a version of it, where there is a dot
pub record ProgramParts : Type 0 where
  pub program : List ℕ
  pub version : Option (List ℕ)

-- the text is one part, or two with a dot between them, and no part has a dot
abbrev pub IsProgramCut : (program : List ℕ) → (version : Option (List ℕ)) → (text : List ℕ) → Type 0
IsProgramCut program None text = HasNoDot program × (text ≡ program)
IsProgramCut program (Some version) text =
    HasNoDot program × HasNoDot version × (text ≡ program ++ 46 ∷ version)

-- the number of the first program of a name
abbrev pub program_called : (name : List ℕ) → List Program → Option ℕ
program_called name programs = option_map (λ x. x.number) (find (λ x. bytes_eq name x.name) programs)

-- the number of the first version of a name, of the programs that have a number
abbrev pub version_called : (name : List ℕ) → (program : ℕ) → List Program → Option ℕ
version_called name program programs =
    let own = filter (λ x. x.number == program) programs in
    option_map (λ v. v.number) (find (λ v. bytes_eq name v.name) (flat_map (λ x. x.versions) own))

-- A part means a number: its own, or that of what it names. No name begins with a digit (RFC 4506 section 6.2).
pub data MeansNumber (part : List ℕ) (called : Option ℕ) (n : ℕ) : Type 0 where
  number : n < 2 ^ 32 → part ≡ decimal n → MeansNumber part called n
  name : begins_with_digit part ≡ false → called ≡ Some n → MeansNumber part called n

-- a part is a name that nothing has
abbrev pub IsUncalled : (part : List ℕ) → (called : Option ℕ) → Type 0
IsUncalled part called = (begins_with_digit part ≡ false) × (called ≡ None)

-- the version that is meant, where one is
abbrev pub MeansVersion : Option (List ℕ) → (program : ℕ) → List Program → Option ℕ → Type 0
MeansVersion None program programs version = version ≡ None
MeansVersion (Some part) program programs version =
    (n : ℕ) × (version ≡ Some n) × MeansNumber part (version_called part program programs) n

-- The text names this program, and this version of it where it names one. A number needs no declaration.
pub record NamesProgram (text : List ℕ) (programs : List Program) (named : NamedProgram) : Type 0 where
  pub parts : ProgramParts
  pub cut : IsProgramCut parts.program parts.version text
  pub program : MeansNumber parts.program (program_called parts.program programs) named.program
  pub version : MeansVersion parts.version named.program programs named.version

-- each part is a number or a name
abbrev pub AreRead : ProgramParts → Type 0
AreRead p = (IsNoNumber p.program → ⊥) × IfSome p.version (λ part. IsNoNumber part → ⊥)

-- the part with this number, from 1, is the first that is neither a number nor a name
abbrev pub IsUnreadAt : ℕ → ProgramParts → Type 0
IsUnreadAt k p =
    ((k ≡ 1) × IsNoNumber p.program)
    ⊎ ((k ≡ 2) × (IsNoNumber p.program → ⊥) × IsSomeAnd p.version (λ part. IsNoNumber part))

-- The parts mean a program, and no version of it.
pub record MeansNoVersion (p : ProgramParts) (programs : List Program) : Type 0 where
  pub program : ℕ
  pub means : MeansNumber p.program (program_called p.program programs) program
  pub none : IsSomeAnd p.version (λ part. IsUncalled part (version_called part program programs))

-- the parts mean nothing from here on: no program, or no version of the one that they mean
abbrev pub MeansNoProgram : ProgramParts → List Program → UnnamedProgram → Type 0
MeansNoProgram p programs unnamed.NotTwoParts = ⊥
MeansNoProgram p programs (unnamed.NotANumber k) = IsUnreadAt k p
MeansNoProgram p programs unnamed.NoProgram = AreRead p × IsUncalled p.program (program_called p.program programs)
MeansNoProgram p programs unnamed.NoVersion = AreRead p × MeansNoVersion p programs

-- the text has more than two parts, or they mean nothing
abbrev pub NamesNoProgram : (text : List ℕ) → List Program → UnnamedProgram → Type 0
NamesNoProgram text programs unnamed.NotTwoParts = (p : ProgramParts) → IsProgramCut p.program p.version text → ⊥
NamesNoProgram text programs why =
    (p : ProgramParts) × IsProgramCut p.program p.version text × MeansNoProgram p programs why
