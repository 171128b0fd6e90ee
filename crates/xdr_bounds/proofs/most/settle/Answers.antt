use Rattle.std.proofs.Common.{◌≡◌, ℕ, ◌<◌, length, refl, sym, subst, arith}
use Rattle.xdr_bounds.proofs.Settling.{settled_at, known_set, undone-set}
use Rattle.xdr_bounds.proofs.most.settle.Goals as goal

pub returns-then-not-is_due-clause-settled : goal.returns-then-not-is_due-clause-settled
returns-then-not-is_due-clause-settled c = λ e. (
  refl,
  settled_at c.args.shapes.now.items c.args.done.now.items c.args.place c.index-shape.result.now c.requires.within
      c.index-shape.ensures (c.is_due.ensures.settled c.if-not-is_due.true),
)

pub returns-clause-keeps : goal.returns-clause-keeps
returns-clause-keeps c =
    known_set c.args.shapes.now.items c.args.amounts.now.items c.args.done.now.items c.args.place
    c.index-shape.result.now c.greatest_of.result c.requires.within c.index-shape.ensures c.requires.all.0
    c.requires.all.1 (c.is_due.ensures.ready c.if-not-is_due.false) c.greatest_of.ensures

pub returns-clause-falls : goal.returns-clause-falls
returns-clause-falls c = λ e.
    undone-set c.args.done.now.items c.args.place (omega (arith, c.requires.within, c.requires.all.1))
    (c.is_due.ensures.waiting c.if-not-is_due.false)
