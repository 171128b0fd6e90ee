use Rattle.std.proofs.Common.{◌≡◌, [], true, false, take}
use Rattle.std.specs.Str.{bytes_eq}
use Rattle.xdr_lang.specs.Distinct.{repeats}
use Rattle.xdr_lang.specs.Views.{types_of}
use Rattle.xdr_lang.specs.Private.Tables.{HasParts, type_names}
use Rattle.xdr_lang.proofs.type_table.parts_of.Given as goal

abbrev pub invariant-loop-field : goal.invariant-loop-field
invariant-loop-field l = record {
  parts : HasParts l.parts (types_of (take l.field-index l.types));
  apart : l.apart ≡ true → repeats bytes_eq [] (type_names (types_of (take l.field-index l.types))) ≡ false;
}
