use Rattle.xdr_json_reader.specs.Private.Entries.{due_of, dues}
use Rattle.xdr_json_reader.specs.Private.Names.{AreTables}
use Rattle.xdr_json_reader.specs.Private.Pending.{work}
use Rattle.xdr_json_reader.specs.Private.Walk.{Walks}
use Rattle.xdr_json_reader.specs.Private.Wanted.{AreFieldTables}
use Rattle.xdr_json_reader.proofs.first_fault.first_with.Given as goal

abbrev pub invariant-loop-next : goal.invariant-loop-next
invariant-loop-next l =
    Walks l.schema.kinds (due_of l.fn.root) (dues l.due.items) l.told.why
    × AreTables l.schema.kinds l.tables × AreFieldTables l.schema.kinds l.groups

abbrev pub decreases-loop-next : goal.decreases-loop-next
decreases-loop-next l = work l.schema.kinds (dues l.due.items)
