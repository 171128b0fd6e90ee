use Rattle.std.proofs.Common.{arith, length}
use Rattle.oncrpc_call.proofs.Dots.{last_behind, last_cut, none_at_all, none_behind, none_more}
use Rattle.oncrpc_call.proofs.uaddr6.at_last_dot.Goals as goal

pub loop-at-init : goal.loop-at-init
loop-at-init c = none_behind c.args.text.now (length c.args.text.now) (omega arith)

pub loop-at-preserved : goal.loop-at-preserved
loop-at-preserved c =
    none_more c.args.text.now c.loop-at.at c.loop-at-test.true (omega arith) c.if-text-at-eq46.false
    c.loop-at.invariant

pub returns-then-text-at-eq46 : goal.returns-then-text-at-eq46
returns-then-text-at-eq46 c = (
  last_behind c.args.text.now c.loop-at.at c.loop-at-test.true c.loop-at.invariant,
  last_cut c.args.text.now c.loop-at.at c.loop-at-test.true (omega arith) c.if-text-at-eq46.true,
)

pub returns : goal.returns
returns c = none_at_all c.args.text.now c.loop-at.at (omega arith) c.loop-at.invariant
