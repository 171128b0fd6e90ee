use Rattle.std.proofs.Common.{◌≡◌, ◌+◌, length, refl, arith}
use Rattle.xdr_io.proofs.Chained.{Counts-trans, Counts-none, Consumes-nothing, MovesAtMost-after}
use Rattle.xdr_io.proofs.Past.{Adds-after, Adds-length, Adds-last, FailsByRead-ok, FailsByRead-err, CountsAtMost-next}
use Rattle.xdr_io.proofs.input.read_past.Goals as goal

pub loop-turn-init : goal.loop-turn-init
loop-turn-init g c = record {
  bytes = Consumes-nothing _ _ c.new-bytes.ensures.items;
  some = omega arith;
  few = omega arith;
  count = Counts-none _;
  none_failed = Counts-none _;
}

pub loop-turn-preserved : goal.loop-turn-preserved
loop-turn-preserved g c =
    let grown : length c.read_more.new.bytes.items ≡ length c.loop-turn.bytes.items + c.in-Ok.n =
    Adds-length _ c.read_more.new.array _ _ _ _ (omega (arith, c.in-Ok.ensures.added.bound)) c.in-Ok.ensures.added in
    record {
      bytes = Adds-after _ _ _ _ _ _ _ c.loop-turn.invariant.bytes c.in-Ok.ensures.added;
      some = omega arith;
      few = omega arith;
      count = Counts-trans _ _ _ c.loop-turn._turn 1 _ refl c.loop-turn.invariant.count c.read_more.ensures.once.count;
      none_failed = Counts-trans _ _ _ 0 0 0 refl c.loop-turn.invariant.none_failed
          c.in-Ok.ensures.failures.none_failed;
    }

-- the read was the turn after the earlier ones
pub returns-in-Err-clause-read : goal.returns-in-Err-clause-read
returns-in-Err-clause-read g c = record {
  bytes = tt;
  end = tt;
  most = tt;
  moved = MovesAtMost-after c.args.enough 4096 _ _ _ c.loop-turn.bytes.items (omega arith) c.loop-turn.invariant.bytes
      c.read_more.ensures.once.moved;
}

pub returns-in-Err-clause-reads : goal.returns-in-Err-clause-reads
returns-in-Err-clause-reads g c =
    CountsAtMost-next _ _ _ c.loop-turn._turn (omega arith) c.loop-turn.invariant.count c.read_more.ensures.once.count

pub returns-in-Err-clause-failures : goal.returns-in-Err-clause-failures
returns-in-Err-clause-failures g c = FailsByRead-err _ _ _ _ c.loop-turn.invariant.none_failed c.in-Err.ensures.failures

pub returns-then-n-eq0-clause-read : goal.returns-then-n-eq0-clause-read
returns-then-n-eq0-clause-read g c =
    Adds-last c.args.enough _ c.read_more.new.array _ _ _ _ _ (omega arith) (omega arith)
    (omega (arith, c.in-Ok.ensures.added.bound)) c.loop-turn.invariant.bytes c.in-Ok.ensures.added (λ _. omega arith)

pub returns-then-n-eq0-clause-reads : goal.returns-then-n-eq0-clause-reads
returns-then-n-eq0-clause-reads g c =
    CountsAtMost-next _ _ _ c.loop-turn._turn (omega arith) c.loop-turn.invariant.count c.read_more.ensures.once.count

pub returns-then-n-eq0-clause-failures : goal.returns-then-n-eq0-clause-failures
returns-then-n-eq0-clause-failures g c =
    FailsByRead-ok _ _ _ _ _ c.loop-turn.invariant.none_failed c.in-Ok.ensures.failures

pub returns-then-len-enough-clause-read : goal.returns-then-len-enough-clause-read
returns-then-len-enough-clause-read g c =
    Adds-last c.args.enough _ c.read_more.new.array _ _ _ _ _ (omega arith) (omega arith)
    (omega (arith, c.in-Ok.ensures.added.bound)) c.loop-turn.invariant.bytes c.in-Ok.ensures.added
    (λ short. absurd (omega arith))

pub returns-then-len-enough-clause-reads : goal.returns-then-len-enough-clause-reads
returns-then-len-enough-clause-reads g c =
    CountsAtMost-next _ _ _ c.loop-turn._turn (omega arith) c.loop-turn.invariant.count c.read_more.ensures.once.count

pub returns-then-len-enough-clause-failures : goal.returns-then-len-enough-clause-failures
returns-then-len-enough-clause-failures g c =
    FailsByRead-ok _ _ _ _ _ c.loop-turn.invariant.none_failed c.in-Ok.ensures.failures

pub returns-clause-read : goal.returns-clause-read
returns-clause-read g c = record {
  bytes = tt;
  end = tt;
  most = tt;
  moved = record { input = c.loop-turn.bytes.items; few = omega arith; read = c.loop-turn.invariant.bytes };
}
