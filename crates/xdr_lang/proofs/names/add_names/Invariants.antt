use Rattle.std.proofs.Common.{◌≡◌, drop, map, ◌++◌}
use Rattle.xdr_lang.specs.Views.{texts}
use Rattle.xdr_lang.proofs.names.add_names.Given as goal

abbrev pub invariant-loop-item : goal.invariant-loop-item
invariant-loop-item g l = texts l.found.items ++ map g.T.Declaration.name_of
    (map g.T.Declaration.view (drop l.item-index l.items)) ≡ texts l.fn.found.items ++ map g.T.Declaration.name_of
    (map g.T.Declaration.view l.items)
