use Rattle.std.proofs.Common.{◌≡◌, ◌++◌, drop}
use Rattle.xdr_types.specs.View.{values}
use Rattle.oncrpc_service.specs.Private.Nodes.{more_fields}
use Rattle.oncrpc_service.proofs.rows.push_more.Given as goal

abbrev pub invariant-loop-field : goal.invariant-loop-field
invariant-loop-field l = l.out.items ++ more_fields (values (drop l.field-index l.fields))
    ≡ l.initial.out.items ++ more_fields (values l.fields)
