use Rattle.std.proofs.Common.{◌≡◌, drop}
use Rattle.xdr_constants.specs.Names.{names}
use Rattle.xdr_constants.specs.Views.{knowns}
use Rattle.xdr_lang.specs.Views.{texts}
use Rattle.xdr_lang.specs.Private.Tables.{share}
use Rattle.xdr_lang.proofs.apart.constants_share.Given as goal

abbrev pub invariant-loop-name : goal.invariant-loop-name
invariant-loop-name l = share (texts (drop l.name-index l.others)) (names (knowns l.known.list.items))
    ≡ share (texts l.others) (names (knowns l.known.list.items))
