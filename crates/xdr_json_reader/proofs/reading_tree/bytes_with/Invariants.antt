use Rattle.std.proofs.Common.{[], ◌∷◌}
use Rattle.xdr_json_reader.specs.Tape.{json_in}
use Rattle.xdr_json_reader.specs.Private.Pending.{Stands, work}
use Rattle.xdr_json_reader.specs.Private.Entries.{dues}
use Rattle.xdr_json_reader.specs.Private.Names.{AreTables}
use Rattle.xdr_json_reader.proofs.reading_tree.bytes_with.Given as goal

abbrev pub invariant-loop-next : goal.invariant-loop-next
invariant-loop-next l =
    Stands l.schema.kinds ((l.fn.kind.place, json_in l.tree) ∷ []) l.out.items (dues l.due.items)
    × AreTables l.schema.kinds l.tables

abbrev pub decreases-loop-next : goal.decreases-loop-next
decreases-loop-next l = work l.schema.kinds (dues l.due.items)
