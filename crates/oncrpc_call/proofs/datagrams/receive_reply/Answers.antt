-- Datagrams of other calls are passed over.
use Rattle.std.proofs.Common.{ℕ, List, [], ◌∷◌, ◌++◌, take, refl, sym, arith}
use Rattle.std.proofs.Common.{length-append}
use Rattle.xdr_io.proofs.Chained.{Counts-trans}
use Rattle.rpc_engine.specs.Exchanged.{read_failures}
use Rattle.rpc_engine.proofs.Ports.{Sends-trans}
use Rattle.oncrpc_call.specs.Datagrams.{IsOther, most_passed}
use Rattle.oncrpc_call.proofs.Passing.{failed_at, no_device, over_more, spoken_at, too_many_at}
use Rattle.oncrpc_call.proofs.datagrams.receive_reply.Goals as goal

pub passing-preserved : goal.passing-preserved
passing-preserved g c =
    let inv = c.passing.invariant in
    let message : List ℕ = take c.in-Ok.n c.receive.new.array in
    let other : IsOther c.args.xid message = rw c.if-is_own.false at c.is_own.ensures in
    let longer = length-append inv.passed.0 (message ∷ []) in
    record {
      passed = (
        inv.passed.0 ++ message ∷ [],
        over_more c.args.xid _ _ _ inv.passed.0 message inv.passed.1 c.in-Ok.ensures.received other,
        omega (arith, longer, inv.passed.2),
      );
      unsent = Sends-trans _ _ _ [] [] [] refl inv.unsent c.in-Ok.ensures.unsent;
      read = Counts-trans _ _ _ 0 0 0 refl inv.read c.in-Ok.ensures.failed;
      write = Counts-trans _ _ _ 0 0 0 refl inv.write c.in-Ok.ensures.none_failed;
    }

pub returns-in-Err : goal.returns-in-Err
returns-in-Err g c =
    let inv = c.passing.invariant in
    let count = inv.passed.2 in
    record {
      answered = failed_at c.args.xid most_passed _ _ _ inv.passed.0 (omega (arith, count)) inv.passed.1
          c.in-Err.ensures.received;
      unsent = Sends-trans _ _ _ [] [] [] refl inv.unsent c.in-Err.ensures.unsent;
      read = Counts-trans _ _ _ 0 1 1 refl inv.read c.in-Err.ensures.failed;
      write = Counts-trans _ _ _ 0 0 0 refl inv.write c.in-Err.ensures.none_failed;
      unwritten = refl;
    }

pub returns-then-is_own : goal.returns-then-is_own
returns-then-is_own g c =
    let inv = c.passing.invariant in
    let count = inv.passed.2 in
    let message : List ℕ = take c.in-Ok.n c.receive.new.array in
    let answer = c.reply_to.result in
    let own : IsOther c.args.xid message → ⊥ = rw c.if-is_own.true at c.is_own.ensures in
    let quiet = no_device c.args.xid message answer c.reply_to.ensures in
    record {
      answered = spoken_at c.args.xid most_passed _ _ _ inv.passed.0 message answer (omega (arith, count)) own
          inv.passed.1 c.in-Ok.ensures.received c.reply_to.ensures;
      unsent = Sends-trans _ _ _ [] [] [] refl inv.unsent c.in-Ok.ensures.unsent;
      read = Counts-trans _ _ _ 0 0 (read_failures answer) (sym quiet.0) inv.read c.in-Ok.ensures.failed;
      write = Counts-trans _ _ _ 0 0 0 refl inv.write c.in-Ok.ensures.none_failed;
      unwritten = quiet.1;
    }

pub returns : goal.returns
returns g c =
    let inv = c.passing.invariant in
    let count = inv.passed.2 in
    record {
      answered = too_many_at c.args.xid most_passed _ _ inv.passed.0 (omega (arith, count)) inv.passed.1
          (omega (arith, count));
      unsent = inv.unsent;
      read = inv.read;
      write = inv.write;
      unwritten = refl;
    }
