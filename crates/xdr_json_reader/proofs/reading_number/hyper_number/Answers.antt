use Rattle.xdr_json_reader.proofs.Looks.{no_number}
use Rattle.xdr_json_reader.proofs.reading_number.hyper_number.Goals as goal

pub returns-in_default-clause-only : goal.returns-in_default-clause-only
returns-in_default-clause-only c = λ z h k.
    absurd (no_number c.args.json z c.in_default.not-Number c.in_default.not-Text k)
