use Rattle.std.proofs.Common.{refl}
use Rattle.capture_streams.proofs.Skipping.{skips_some}
use Rattle.capture_streams.proofs.direction.Direction.skip_hole.Goals as goal

pub returns-clause-skips : goal.returns-clause-skips
returns-clause-skips c =
    let d = c.args.self.now in
    let v = c.in_ok-at.field-0.now in
    let f = c.in_ok-at.ensures.some in
    skips_some d _ v _ d.pieces.apart f (d.behind f.0 v f.1.there) refl refl refl refl
