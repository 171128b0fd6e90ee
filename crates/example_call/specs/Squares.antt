-- A program that squares numbers, and the call of its one procedure (RFC 5531 sections 9 and 12.3).
use Rattle.std.specs.Prelude.{ℕ, List, [], ◌∷◌, Some, codes}
use Rattle.rpc_message.specs.Message.{AuthView, CallView}
use Rattle.xdr_lang.specs.Declarations.{Procedure, Program, Version}
use Rattle.oncrpc_procedures.specs.Meant.{Target}

-- unsigned SQUARE(unsigned) = 1, whose kinds are the second of the basic ones
abbrev pub procedure : Procedure
procedure = record { name = codes "SQUARE"; number = 1; arguments = 1 ∷ []; result = Some 1 }

abbrev pub version : Version
version = record { name = codes "FIRST"; number = 1; procedures = procedure ∷ [] }

-- all that is declared
abbrev pub programs : List Program
programs = record { name = codes "SQUARES"; number = 536870912; versions = version ∷ [] } ∷ []

-- the procedure, with the numbers of its program and its version
abbrev pub square : Target
square = record { program = 536870912; version = 1; procedure = procedure }

-- the call that asks for the square of 7
abbrev pub question : (xid : ℕ) → AuthView → CallView
question xid caller = record {
  xid = xid;
  prog = 536870912;
  vers = 1;
  proc = 1;
  cred = caller;
  verf = record { flavor = 0; body = [] };
  args = 0 ∷ 0 ∷ 0 ∷ 7 ∷ [];
}
