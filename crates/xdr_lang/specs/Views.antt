-- What the code makes, without where it lies in memory and in the text.
use Rattle.std.specs.Prelude.{ℕ, ℤ, List, map, option_map, String, string_bytes}
use Rattle.std.specs.declared.alloc.Global.{Global}
use Rattle.xdr_grammar.specs.declared.outline.Field.{Field}
use Rattle.xdr_grammar.specs.declared.outline.Name.{Name}
use Rattle.xdr_grammar.specs.Outline as out
use Rattle.xdr_grammar.specs.View.{field_of}
use Rattle.xdr_types.specs.declared.kind.KindId.{KindId}
use Rattle.xdr_lang.specs.declared.declarations.Procedure.{Procedure}
use Rattle.xdr_lang.specs.declared.declarations.Version.{Version}
use Rattle.xdr_lang.specs.declared.declarations.Program.{Program}
use Rattle.xdr_lang.specs.declared.declarations.Declared.{Declared}
use Rattle.xdr_lang.specs.declared.meaning.Listed.{Listed}
use Rattle.xdr_types.specs.KindViews.{lists_of}
use Rattle.xdr_lang.specs.Declarations as said

-- types that are looked up
abbrev pub types_of : List Field → List out.Field
types_of ts = map field_of ts

-- names without their places
abbrev pub texts : List Name → List (List ℕ)
texts ns = map (λ (n : Name). n.text.now) ns

-- a constant
abbrev pub constant_of : String Global × ℤ → said.Constant
constant_of c = record { name = string_bytes c.0; value = c.1 }

-- places of kinds
abbrev pub places : List KindId → List ℕ
places ks = map (λ (k : KindId). k.place) ks

-- a procedure
abbrev pub procedure_of : Procedure → said.Procedure
procedure_of p = record {
  name = string_bytes p.name;
  number = p.number;
  arguments = places p.arguments.items;
  result = option_map (λ (k : KindId). k.place) p.result;
}

-- a version
abbrev pub version_of : Version → said.Version
version_of v = record {
  name = string_bytes v.name;
  number = v.number;
  procedures = map procedure_of v.procedures.items;
}

-- a program
abbrev pub program_of : Program → said.Program
program_of p = record { name = string_bytes p.name; number = p.number; versions = map version_of p.versions.items }

-- what a text declares
abbrev pub declared_of : Declared → said.Declared
declared_of d = record {
  schema = d.schema;
  constants = map constant_of d.constants.items;
  programs = map program_of d.programs.items;
}

-- the same, before its kinds are a schema
abbrev pub listed_of : Listed → said.Declared
listed_of l = record {
  schema = lists_of l.kinds.items l.names.items;
  constants = map constant_of l.constants.items;
  programs = map program_of l.programs.items;
}
