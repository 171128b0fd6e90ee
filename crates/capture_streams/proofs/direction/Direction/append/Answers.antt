use Rattle.std.proofs.Common.{length, refl}
use Rattle.capture_streams.proofs.Holding.{behind_gap}
use Rattle.capture_streams.proofs.Stepping.{appends}
use Rattle.capture_streams.proofs.direction.Direction.append.Goals as goal

pub invariant_of-self-clause-behind : goal.invariant_of-self-clause-behind
invariant_of-self-clause-behind c =
    let d = c.args.self.now in
    behind_gap d.pieces.by_last d.due (length c.args.bytes.now) d.pieces.apart d.behind c.requires.gap

pub returns-clause-ok : goal.returns-clause-ok
returns-clause-ok c =
    appends c.args.self.now _ c.args.bytes.now c.args.out.now.items _ c.in_ok-extend_from_slice.ensures.items refl refl
    c.requires.gap
