use Rattle.std.proofs.Common.{◌≡◌, drop}
use Rattle.xdr_tokens.specs.Bytes.{value_from}
use Rattle.xdr_tokens.proofs.number.digits.Given as goal

abbrev pub invariant-loop-byte : goal.invariant-loop-byte
invariant-loop-byte l = value_from l.base l.value (drop l.byte-index l.text) ≡ value_from l.base 0 l.text
