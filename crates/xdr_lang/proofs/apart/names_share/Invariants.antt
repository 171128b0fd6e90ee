use Rattle.std.proofs.Common.{◌≡◌, drop}
use Rattle.xdr_lang.specs.Views.{texts, types_of}
use Rattle.xdr_lang.specs.Private.Tables.{type_names, share}
use Rattle.xdr_lang.proofs.apart.names_share.Given as goal

abbrev pub invariant-loop-name : goal.invariant-loop-name
invariant-loop-name l = share (texts (drop l.name-index l.others)) (type_names (types_of l.types.list.items))
    ≡ share (texts l.others) (type_names (types_of l.types.list.items))
