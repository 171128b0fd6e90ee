use Rattle.xdr_writer.specs.Private.Bytes.{pieces_bytes}
use Rattle.xdr_writer.proofs.Finding.{unwritten}
use Rattle.xdr_writer.proofs.taking.write_apart.Goals as goal

pub returns-in-Err-push_pieces-clause-judges : goal.returns-in-Err-push_pieces-clause-judges
returns-in-Err-push_pieces-clause-judges c =
    unwritten c.args.checker.now c.judge_pieces.new.checker (pieces_bytes c.args.pieces.now) c.in-Ok.step
    c.in-Ok.ensures.judges
