use Rattle.std.proofs.Common.{◌-◌, length, arith}
use Rattle.xdr_show.proofs.Puts.{copied}
use Rattle.xdr_show.proofs.backwards.write_before.Goals as goal

pub returns-clause-written : goal.returns-clause-written
returns-clause-written c =
    let start = c.args.end - length c.args.bytes.now in
    copied c.args.line.now c.args.bytes.now c.copy_from_slice.new.self start (c.args.end - start) c.args.end
    (omega (arith, c.requires.0)) (omega (arith, c.requires.0)) c.copy_from_slice.ensures.after
