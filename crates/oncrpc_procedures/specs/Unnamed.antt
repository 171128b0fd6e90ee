-- Why a text names no procedure of programs.
use Rattle.std.specs.Prelude.{◌≡◌, ◌≢◌, ◌⊎◌, ℕ, List, []}
use Rattle.xdr_lang.specs.Declarations.{Program}
use Rattle.oncrpc_procedures.specs.declared.unnamed.Unnamed.{Unnamed}
use Rattle.oncrpc_procedures.specs.declared.unnamed.Unnamed.TheVariants as unnamed
use Rattle.oncrpc_procedures.specs.Meant.{Parts, procedures_meant, programs_meant, versions_meant}
use Rattle.oncrpc_procedures.specs.Names.{AreReadable, IsCut, IsNoNumber}

-- the part with this number, from 1, is the first that is neither a number nor a name
abbrev pub IsFirstUnread : ℕ → Parts → Type 0
IsFirstUnread k p =
    ((k ≡ 1) × IsNoNumber p.program)
    ⊎ (((k ≡ 2) × (IsNoNumber p.program → ⊥) × IsNoNumber p.version)
    ⊎ ((k ≡ 3) × (IsNoNumber p.program → ⊥) × (IsNoNumber p.version → ⊥) × IsNoNumber p.procedure))

-- the parts mean nothing from here on: no program, no version of one that they mean, or no procedure of such a version
abbrev pub MeansNone : Parts → List Program → Unnamed → Type 0
MeansNone p programs unnamed.NotThreeParts = ⊥
MeansNone p programs (unnamed.NotANumber k) = IsFirstUnread k p
MeansNone p programs unnamed.NoProgram = AreReadable p × (programs_meant p programs ≡ [])
MeansNone p programs unnamed.NoVersion =
    AreReadable p × (programs_meant p programs ≢ []) × (versions_meant p programs ≡ [])
MeansNone p programs unnamed.NoProcedure =
    AreReadable p × (versions_meant p programs ≢ []) × (procedures_meant p programs ≡ [])

-- the text has no three parts, or they mean nothing
abbrev pub NamesNone : (text : List ℕ) → List Program → Unnamed → Type 0
NamesNone text programs unnamed.NotThreeParts = (p : Parts) → IsCut p text → ⊥
NamesNone text programs why = (p : Parts) × IsCut p text × MeansNone p programs why
