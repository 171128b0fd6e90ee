use Rattle.xdr_json_reader.specs.Private.Look.{seen}
use Rattle.xdr_json_reader.proofs.Leaves.{took_unsigned}
use Rattle.xdr_json_reader.proofs.reading_leaf.read_unsigned.Goals as goal

pub returns-in-Ok-put_unsigned : goal.returns-in-Ok-put_unsigned
returns-in-Ok-put_unsigned c =
    took_unsigned (seen c.args.json) c.in-Ok.number c.args.out.now.items c.put_unsigned.new.out.items
    c.in-Ok.ensures.legal c.in-Ok.ensures.found c.in-Ok-put_unsigned.ensures
