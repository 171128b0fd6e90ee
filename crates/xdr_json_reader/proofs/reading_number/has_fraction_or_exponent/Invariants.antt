use Rattle.std.proofs.Common.{◌≡◌, drop}
use Rattle.std.specs.List.{list_any}
use Rattle.xdr_json_reader.specs.Reasons.{is_mark}
use Rattle.xdr_json_reader.proofs.reading_number.has_fraction_or_exponent.Given as goal

abbrev pub invariant-loop-byte : goal.invariant-loop-byte
invariant-loop-byte l = list_any is_mark (drop l.byte-index l.bytes) ≡ list_any is_mark l.bytes
