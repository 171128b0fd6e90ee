use Rattle.std.proofs.Common.{◌≡◌}
use Rattle.xdr_lang.specs.Views.{types_of}
use Rattle.xdr_lang.proofs.type_table.TypeTable.learn_path.Given as goal

abbrev pub invariant-loop-name : goal.invariant-loop-name
invariant-loop-name l = types_of l.self.list.items ≡ types_of l.fn.self.list.items
