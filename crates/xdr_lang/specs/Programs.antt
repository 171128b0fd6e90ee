-- The programs that an outline declares (RFC 5531 section 12.3).
use Rattle.std.specs.Prelude.{ℕ, List, Option, Some}
use Rattle.xdr_grammar.specs.Outline as out
use Rattle.xdr_lang.specs.Declarations.{Procedure, Version, Program}
use Rattle.xdr_tokens.specs.Options.{◌>>=◌}
use Rattle.xdr_constants.specs.Constants.{unsigned}
use Rattle.xdr_lang.specs.LookUp.{place_of}
use Rattle.xdr_lang.specs.Kinds.{each, where_given}

-- the places of the kinds of a procedure's arguments, and of its result's where there is one
unfoldable pub signature : List out.Field → out.Procedure → Option (List ℕ × Option ℕ)
signature types p = each (place_of types) p.arguments >>= λ arguments. where_given (place_of types) p.result >>=
    λ result. Some (arguments, result)

-- a procedure; its number is unsigned
unfoldable pub one_procedure : List out.Field → out.Procedure → Option Procedure
one_procedure types p = do
  n ← unsigned p.number
  s ← signature types p
  Some (record { name = p.name; number = n; arguments = s.0; result = s.1 })

-- a version; its number is unsigned
unfoldable pub one_version : List out.Field → out.Version → Option Version
one_version types v = do
  n ← unsigned v.number
  all ← each (one_procedure types) v.procedures
  Some (record { name = v.name; number = n; procedures = all })

-- a program; its number is unsigned
unfoldable pub one_program : List out.Field → out.Program → Option Program
one_program types p = do
  n ← unsigned p.number
  all ← each (one_version types) p.versions
  Some (record { name = p.name; number = n; versions = all })
