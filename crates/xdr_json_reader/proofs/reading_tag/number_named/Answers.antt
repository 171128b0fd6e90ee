use Rattle.std.proofs.Common.{map}
use Rattle.xdr_types.specs.KindViews.{constant_of}
use Rattle.xdr_json_reader.proofs.Tables.{looked_up}
use Rattle.xdr_json_reader.proofs.reading_tag.number_named.Goals as goal

pub returns-in-Some : goal.returns-in-Some
returns-in-Some c =
    looked_up (map constant_of c.args.members.now.items) c.args.name.now c.in-Some.names.now c.get.result
    c.copied.result (rw c.in-Some.is at c.requires) c.get.ensures.value c.copied.ensures
