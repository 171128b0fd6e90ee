-- A program of the examples.
use Rattle.std.specs.Prelude.{None, [], ◌∷◌, codes}
use Rattle.xdr_lang.specs.Declarations.{Procedure, Program}

-- a procedure without arguments and result, number 0
abbrev pub null : Procedure
null = record { name = codes "NULL"; number = 0; arguments = []; result = None }

-- program 1, which has it in version 2
abbrev pub ping : Program
ping = record {
  name = codes "PING";
  number = 1;
  versions = (record { name = codes "ONE"; number = 2; procedures = null ∷ [] }) ∷ [];
}
