use Rattle.std.proofs.Common.{◌≡◌, drop, map, ◌++◌}
use Rattle.xdr_constants.specs.Views.{knowns}
use Rattle.xdr_lang.specs.Views.{constant_of}
use Rattle.xdr_lang.specs.Meaning as said
use Rattle.xdr_lang.proofs.lists.all_constants.Given as goal

abbrev pub invariant-loop-constant : goal.invariant-loop-constant
invariant-loop-constant l = map constant_of l.found.items ++ map said.constant_of
    (knowns (drop l.constant-index l.constants)) ≡ said.given_constants ++ map said.constant_of (knowns l.constants)
