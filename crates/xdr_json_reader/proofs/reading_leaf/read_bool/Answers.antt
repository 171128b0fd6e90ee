use Rattle.xdr_json_reader.specs.Private.Look.{seen}
use Rattle.xdr_json_reader.proofs.Leaves.{took_bool}
use Rattle.xdr_json_reader.proofs.reading_leaf.read_bool.Goals as goal

pub returns-in-Ok-put_flag : goal.returns-in-Ok-put_flag
returns-in-Ok-put_flag c =
    took_bool (seen c.args.json) c.in-Ok.flag c.args.out.now.items c.put_flag.new.out.items c.in-Ok.ensures.found
    c.in-Ok-put_flag.ensures
