use Rattle.std.proofs.Common.{◌≡◌, drop, map, []}
use Rattle.xdr_constants.specs.Views.{knowns}
use Rattle.xdr_constants.specs.Constants.{numbers}
use Rattle.xdr_grammar.specs.View as view
use Rattle.xdr_constants.proofs.constants.numbers.Given as goal

abbrev pub invariant-loop-entry : goal.invariant-loop-entry
invariant-loop-entry l = numbers (map view.entry_of (drop l.entry-index l.entries))
    (knowns l.constants.list.items) ≡ numbers (map view.entry_of l.entries) []
