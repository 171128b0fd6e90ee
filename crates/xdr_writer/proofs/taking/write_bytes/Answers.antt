use Rattle.xdr_writer.proofs.Finding.{unwritten}
use Rattle.xdr_writer.proofs.taking.write_bytes.Goals as goal

pub returns-in-Err-extend_from_slice-clause-judges : goal.returns-in-Err-extend_from_slice-clause-judges
returns-in-Err-extend_from_slice-clause-judges c =
    unwritten c.args.checker.now c.judge.new.checker c.args.bytes.now c.in-Ok.step c.in-Ok.ensures.judges
