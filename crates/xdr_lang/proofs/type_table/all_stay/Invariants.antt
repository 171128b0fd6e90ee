use Rattle.std.proofs.Common.{◌≡◌, drop}
use Rattle.xdr_lang.specs.Views.{types_of}
use Rattle.xdr_lang.specs.Private.Tables.{all_stay}
use Rattle.xdr_lang.proofs.type_table.all_stay.Given as goal

abbrev pub invariant-loop-field : goal.invariant-loop-field
invariant-loop-field l = all_stay l.names (types_of (drop l.field-index l.types)) ≡ all_stay l.names (types_of l.types)
