-- An outline's meaning, with its names compared first, and with what the names of constants and types stand for.
use Rattle.std.specs.Prelude.{List, map, ◌++◌, Option, Some, None, if◌then◌else◌}
use Rattle.xdr_types.specs.Named.{basic}
use Rattle.xdr_tokens.specs.Options.{◌>>=◌}
use Rattle.xdr_constants.specs.Constants.{Known}
use Rattle.xdr_grammar.specs.Outline.{Outline, Field}
use Rattle.xdr_lang.specs.Declarations.{Declared}
use Rattle.xdr_lang.specs.Distinct.{has_twice}
use Rattle.xdr_lang.specs.Kinds.{each, each_onto, one_kind, one_field}
use Rattle.xdr_lang.specs.Meaning.{meaning, constant_of, given_constants}
use Rattle.xdr_lang.specs.Programs.{one_program}

-- what an outline means with these constants and types
unfoldable pub meaning_with : List Known → List Field → Outline → Option Declared
meaning_with ks types o = do
  kinds ← each_onto (one_kind ks types) o.drafts basic.kinds
  names ← each_onto (one_field types) types basic.names
  programs ← each (one_program types) o.programs
  Some (record {
    schema = record { kinds = kinds; names = names };
    constants = given_constants ++ map constant_of ks;
    programs = programs;
  })

-- what an outline means, where no name is there twice
unfoldable pub distinct_meaning : Outline → Option Declared
distinct_meaning o = if has_twice o then None else meaning o
