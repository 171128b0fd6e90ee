use Rattle.std.proofs.Common.{◌≡◌, ℕ, ◌+◌, ◌≤◌, Bool, true, false, cond, take, refl, arith}
use Rattle.xdr_io.proofs.Chained.{Counts-trans, Counts-none}
use Rattle.rpc_engine.specs.declared.port.PortFault.{PortFault}
use Rattle.rpc_engine.proofs.DatagramRuns.{none_served, not_sent, more_answered}
use Rattle.rpc_engine.proofs.datagrams.serve_datagrams.Goals as goal
use Rattle.rpc_engine.proofs.datagrams.serve_datagrams.Goals.{then-is_call, else-is_call}

one_more : (y : Bool) (a n : ℕ) → y ≡ true → n ≡ a + 1 → n ≡ a + cond y 1 0
one_more true a n e h = h
one_more false a n e h = absurd (apart e)
  where
    apart : ◌≡◌ {A = Bool} false true → ⊥
    apart e = cc

no_more : (y : Bool) (a n : ℕ) → y ≡ false → n ≡ a → n ≡ a + cond y 1 0
no_more true a n e h = absurd (apart e)
  where
    apart : ◌≡◌ {A = Bool} true false → ⊥
    apart e = cc
no_more false a n e h = omega (arith, h)

few_more : (y : Bool) (replied done n : ℕ) → n ≡ replied + cond y 1 0 → replied ≤ done → n ≤ done + 1
few_more true replied done n e h = omega (arith, e, h)
few_more false replied done n e h = omega (arith, e, h)

pub loop-done-init : goal.loop-done-init
loop-done-init g c = record {
  served = none_served _ _ _;
  few = omega arith;
  receives_failed = Counts-none _;
  sends_failed = Counts-none _;
}

pub returns-in-Err-answer_datagram-clause-fault : goal.returns-in-Err-answer_datagram-clause-fault
returns-in-Err-answer_datagram-clause-fault g c =
    not_sent c.loop-done.done c.loop-done.replies c.args.count _ _ _ _ _ _ c.loop-done.invariant.served
    (take c.in-Ok.n c.receive.new.array) _ _ _ _ _ c.in-Ok.ensures.received c.in-Ok.ensures.unsent
    c.answer_datagram.ensures.unreceived c.loop-done-test.true c.in-Err-answer_datagram.ensures.replies

pub loop-done-preserved : goal.loop-done-preserved
loop-done-preserved g c =
    let replies : c.if-is_call.replies ≡ c.loop-done.replies + cond c.in-Ok-answer_datagram.is_call 1 0 =
    elim c.if-is_call.branch [
      | then-is_call w ↦ one_more _ _ _ w.if-is_call.true w.replies-is
      | else-is_call w ↦ no_more _ _ _ w.if-is_call.false w.replies-is
    ] in
    record {
      served = more_answered c.loop-done.done c.loop-done.replies c.args.count _ _ _ _ _ _
          c.loop-done.invariant.served (take c.in-Ok.n c.receive.new.array) _ _ _ _ _ c.in-Ok.ensures.received
          c.in-Ok.ensures.unsent c.answer_datagram.ensures.unreceived PortFault c.in-Ok-answer_datagram.is_call
          c.if-is_call.replies replies c.in-Ok-answer_datagram.ensures.replies;
      few = few_more c.in-Ok-answer_datagram.is_call c.loop-done.replies c.loop-done.done c.if-is_call.replies replies
          c.loop-done.invariant.few;
      receives_failed = Counts-trans _ _ _ 0 0 0 refl
          (Counts-trans _ _ _ 0 0 0 refl c.loop-done.invariant.receives_failed c.in-Ok.ensures.failed)
          c.answer_datagram.ensures.none_failed;
      sends_failed = Counts-trans _ _ _ 0 0 0 refl
          (Counts-trans _ _ _ 0 0 0 refl c.loop-done.invariant.sends_failed c.in-Ok.ensures.none_failed)
          c.in-Ok-answer_datagram.ensures.failed;
    }
