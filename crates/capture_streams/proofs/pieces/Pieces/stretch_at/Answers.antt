use Rattle.std.proofs.Common.{◌+◌, inl, refl, arith}
use Rattle.capture_streams.proofs.Holding.{next_from, none_from, held_stretch, gap_stretch, gap_ends, empty_stretch}
use Rattle.capture_streams.proofs.pieces.Pieces.stretch_at.Goals as goal

pub returns-in-None : goal.returns-in-None
returns-in-None c =
    let m = c.args.self.now.by_last in (
      c.requires.some,
      omega arith,
      empty_stretch m c.args.at c.args.most c.args.self.now.apart
          (none_from m c.args.at _ (c.range.ensures.in_range tt) c.in-None.ensures.steps.0),
      inl refl,
    )

pub returns-then-piece-at : goal.returns-then-piece-at
returns-then-piece-at c =
    let m = c.args.self.now.by_last in
    let v = c.in-Some.piece.now in
    let next = next_from m c.args.at c.in-Some.last.now v _ _ (c.range.ensures.in_range tt) c.in-Some.ensures.steps in
    let some = c.requires.some in
    let low = next.low in
    let least = c.min.ensures in (
      omega arith,
      omega arith,
      held_stretch m c.args.at c.in-Some.last.now (c.min.result + 1) v c.args.self.now.apart
          next c.if-piece-at.true (omega arith),
    )

pub returns-else-piece-at : goal.returns-else-piece-at
returns-else-piece-at c =
    let m = c.args.self.now.by_last in
    let v = c.in-Some.piece.now in
    let next = next_from m c.args.at c.in-Some.last.now v _ _ (c.range.ensures.in_range tt) c.in-Some.ensures.steps in
    let some = c.requires.some in
    let ahead = c.if-piece-at.false in
    let least = c.min-else-piece-at.ensures in (
      omega arith,
      omega arith,
      gap_stretch m c.args.at c.in-Some.last.now c.min-else-piece-at.result v
          c.args.self.now.apart next (omega arith),
      gap_ends m c.args.at c.in-Some.last.now c.args.most c.min-else-piece-at.result v c.args.self.now.apart next ahead
          (omega arith),
    )
