use Rattle.xdr_json_reader.specs.Private.Look.{seen}
use Rattle.xdr_json_reader.proofs.Leaves.{took_unsigned_hyper}
use Rattle.xdr_json_reader.proofs.reading_leaf.read_unsigned_hyper.Goals as goal
use Rattle.std.proofs.Common.{arith}

pub returns-in-Ok-put_unsigned_hyper : goal.returns-in-Ok-put_unsigned_hyper
returns-in-Ok-put_unsigned_hyper c =
    took_unsigned_hyper (seen c.args.json) c.in-Ok.number c.args.out.now.items c.put_unsigned_hyper.new.out.items
    (omega arith) c.in-Ok.ensures.found c.in-Ok-put_unsigned_hyper.ensures
