use Rattle.std.proofs.Common.{◌≡◌}
use Rattle.xdr_lang.specs.Views.{types_of}
use Rattle.xdr_lang.proofs.type_table.TypeTable.learn_all.Given as goal

abbrev pub invariant-loop-field : goal.invariant-loop-field
invariant-loop-field l = types_of l.self.list.items ≡ types_of l.fn.self.list.items
