use Rattle.std.proofs.Common.{pos}
use Rattle.xdr_json_reader.proofs.Looks.{no_number}
use Rattle.xdr_json_reader.proofs.reading_number.unsigned_hyper_number.Goals as goal

pub returns-in_default-clause-only : goal.returns-in_default-clause-only
returns-in_default-clause-only c = λ n h k.
    absurd (no_number c.args.json (pos n) c.in_default.not-Number c.in_default.not-Text k)
