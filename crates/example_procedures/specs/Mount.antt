-- The program that mounts, with two of its procedures (RFC 1813 appendix I).
use Rattle.std.specs.Prelude.{List, [], ◌∷◌, None, codes}
use Rattle.xdr_lang.specs.Declarations.{Procedure, Program, Version}
use Rattle.oncrpc_procedures.specs.Meant.{Target}

-- void MOUNTPROC3_NULL(void) = 0
abbrev pub null : Procedure
null = record { name = codes "MOUNTPROC3_NULL"; number = 0; arguments = []; result = None }

-- MOUNTPROC3_EXPORT(void) = 5; its result is of no matter here
abbrev pub listing : Procedure
listing = record { name = codes "MOUNTPROC3_EXPORT"; number = 5; arguments = []; result = None }

abbrev pub third : Version
third = record { name = codes "MOUNT_V3"; number = 3; procedures = null ∷ listing ∷ [] }

-- all that is declared
abbrev pub programs : List Program
programs = record { name = codes "MOUNT_PROGRAM"; number = 100005; versions = third ∷ [] } ∷ []

-- the procedure that is asked for
abbrev pub export : Target
export = record { program = 100005; version = 3; procedure = listing }
