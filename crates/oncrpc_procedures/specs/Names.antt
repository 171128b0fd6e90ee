-- The name of a procedure: PROGRAM.VERSION.PROCEDURE, each a number or a name (RFC 5531 section 12.3).
use Rattle.std.specs.Prelude.{◌≡◌, ℕ, ◌<◌, ◌^◌, true, List, ◌∷◌, ◌++◌, decimal}
use Rattle.xdr_units.specs.Texts.{HasNoDot}
use Rattle.xdr_lang.specs.Declarations.{Program}
use Rattle.oncrpc_procedures.specs.Meant.{Parts, Target, begins_with_digit, procedures_meant}

-- The text is these parts with a dot between two of them, and no part has a dot.
pub record IsCut (p : Parts) (text : List ℕ) : Type 0 where
  pub program : HasNoDot p.program
  pub version : HasNoDot p.version
  pub procedure : HasNoDot p.procedure
  pub joined : text ≡ p.program ++ 46 ∷ (p.version ++ 46 ∷ p.procedure)

-- a text has such parts in one way at most
abbrev pub OneReading : Type 0
OneReading = (p q : Parts) (text : List ℕ) → IsCut p text → IsCut q text → p ≡ q

-- the part begins with a digit, and is the decimal text of no unsigned number (RFC 4506 section 6.2)
abbrev pub IsNoNumber : (part : List ℕ) → Type 0
IsNoNumber part = (begins_with_digit part ≡ true) × ((n : ℕ) → n < 2 ^ 32 → part ≡ decimal n → ⊥)

-- Each part is a number or a name.
pub record AreReadable (p : Parts) : Type 0 where
  pub program : IsNoNumber p.program → ⊥
  pub version : IsNoNumber p.version → ⊥
  pub procedure : IsNoNumber p.procedure → ⊥

-- The text names this procedure of the programs: the first that its parts mean.
pub record Names (text : List ℕ) (programs : List Program) (target : Target) : Type 0 where
  pub parts : Parts
  pub cut : IsCut parts text
  pub readable : AreReadable parts
  pub others : List Target
  pub meant : procedures_meant parts programs ≡ target ∷ others
