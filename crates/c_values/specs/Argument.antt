-- Declarations with a procedure of one argument, for an example.
use Rattle.std.specs.Prelude.{◌≡◌, ◌<◌, ℕ, [], ◌∷◌, codes, length, Option, Some, None}
use Rattle.xdr_types.specs.Named.{place_named}
use Rattle.xdr_lang.specs.Declarations.{Declared, Procedure, procedure_of_program}

-- READDIR of NFS version 3 with one argument, and no type with the name of that (RFC 5531 section 12.3)
abbrev pub HasArgument : Option Declared → Type 0
HasArgument None = ⊥
HasArgument (Some d) = (p : Procedure) × (place : ℕ) × (procedure_of_program 100003 3 16 d.programs ≡ Some p)
    × (p.arguments ≡ place ∷ []) × (place < length d.schema.kinds)
    × (place_named d.schema.names (codes "100003.3.16.1") ≡ None)
