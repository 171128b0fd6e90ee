-- The part alone is the part but for its name.
use Rattle.xdr_parts.specs.Lent.{entry_of}
use Rattle.c_cursors.proofs.Parts.{named_alone}
use Rattle.c_cursors.proofs.putting.part_named.Goals as goal

pub returns : goal.returns
returns c =
    λ input lent.
    named_alone c.args.schema.now.kinds input (entry_of c.args.lent.now) c.part_alone.result
    (c.part_alone.ensures input lent)
