-- What an outline means, where all its names stand for something and all its numbers are in range (RFC 4506 section
-- 6.4).
use Rattle.std.specs.Prelude.{pos, List, [], ◌∷◌, ◌++◌, map, Option, Some, codes}
use Rattle.xdr_types.specs.Named.{basic}
use Rattle.xdr_grammar.specs.Outline.{Outline}
use Rattle.xdr_lang.specs.Declarations.{Constant, Declared}
use Rattle.xdr_tokens.specs.Options.{◌>>=◌}
use Rattle.xdr_constants.specs.Constants.{Known, numbers}
use Rattle.xdr_lang.specs.Kinds.{each, each_onto, one_kind, one_field}
use Rattle.xdr_lang.specs.Programs.{one_program}

-- a constant without how it was declared
abbrev pub constant_of : Known → Constant
constant_of k = record { name = k.name; value = k.value }

-- TRUE and FALSE are declared before the text.
abbrev pub given_constants : List Constant
given_constants = (record { name = codes "TRUE"; value = pos 1 }) ∷
    (record { name = codes "FALSE"; value = pos 0 }) ∷ []

-- The basic kinds and names come before those of the text.
unfoldable pub meaning : Outline → Option Declared
meaning o = do
  ks ← numbers o.constants []
  kinds ← each_onto (one_kind ks o.types) o.drafts basic.kinds
  names ← each_onto (one_field o.types) o.types basic.names
  programs ← each (one_program o.types) o.programs
  Some (record {
    schema = record { kinds = kinds; names = names };
    constants = given_constants ++ map constant_of ks;
    programs = programs;
  })
