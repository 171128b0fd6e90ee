use Rattle.std.proofs.Common.{◌≡◌, drop}
use Rattle.xdr_constants.specs.Names.{names}
use Rattle.xdr_constants.specs.Views.{knowns}
use Rattle.xdr_lang.specs.Views.{types_of}
use Rattle.xdr_lang.specs.Private.Tables.{type_names, share}
use Rattle.xdr_lang.proofs.apart.types_share.Given as goal

abbrev pub invariant-loop-field : goal.invariant-loop-field
invariant-loop-field l = share (type_names (types_of (drop l.field-index l.types))) (names (knowns l.known.list.items))
    ≡ share (type_names (types_of l.types)) (names (knowns l.known.list.items))
