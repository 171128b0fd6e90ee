-- A program's name, as it is cut.
use Rattle.std.specs.Prelude.{ℕ, List, option_map}
use Rattle.std.specs.Borrow.{Bor}
use Rattle.oncrpc_procedures.specs.declared.program_parts.ProgramParts as declared
use Rattle.oncrpc_procedures.specs.declared.unnamed_program.UnnamedProgram.{UnnamedProgram}
use Rattle.oncrpc_procedures.specs.declared.unnamed_program.UnnamedProgram.TheVariants as unnamed
use Rattle.oncrpc_procedures.specs.Installed.{Installed}
use Rattle.oncrpc_procedures.specs.Programs.{IsProgramCut, IsUnreadAt, ProgramParts}

-- the parts, without where they lie
abbrev pub program_parts_of : declared.ProgramParts → ProgramParts
program_parts_of p = record { program = p.program.now; version = option_map (λ v. v.now) p.version }

-- a row, without where its name lies
abbrev pub row_of : ℕ × Bor (List ℕ) → Installed
row_of r = record { number = r.0; name = r.1.now }

-- why a text has no parts that are numbers or names
abbrev pub HasNoProgramParts : (text : List ℕ) → UnnamedProgram → Type 0
HasNoProgramParts text unnamed.NotTwoParts = (p : ProgramParts) → IsProgramCut p.program p.version text → ⊥
HasNoProgramParts text (unnamed.NotANumber k) =
    (p : ProgramParts) × IsProgramCut p.program p.version text × IsUnreadAt k p
HasNoProgramParts text _ = ⊥
