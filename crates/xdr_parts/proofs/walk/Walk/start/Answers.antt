use Rattle.std.proofs.Common.{refl}
use Rattle.xdr_parts.proofs.Keeping.{starts}
use Rattle.xdr_parts.proofs.walk.Walk.start.Goals as goal

pub returns-clause-walked : goal.returns-clause-walked
returns-clause-walked c = λ v f.
    starts _ c.args.kind v c.args.lists refl refl c.new.ensures.items c.none.ensures.taken c.none.ensures.lists f
