use Rattle.std.proofs.Common.{subst, sym}
use Rattle.std.specs.Str.{IsUtf8}
use Rattle.xdr_json.proofs.Digits.{digits_utf8}
use Rattle.xdr_json.proofs.output.Output.hexadecimal.Goals as goal

pub unreachable-requires-in_default-from_utf8 : goal.unreachable-requires-in_default-from_utf8
unreachable-requires-in_default-from_utf8 c =
    c.in_default-from_utf8.ensures.cases.0
    (subst IsUtf8 (sym c.in-Ok.ensures.written) (digits_utf8 c.args.bytes.now))
