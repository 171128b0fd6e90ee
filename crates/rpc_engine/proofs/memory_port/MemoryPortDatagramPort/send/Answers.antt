use Rattle.std.proofs.Common.{◌≡◌, ◌<◌, ◌≤◌, ◌==◌, nat_lt, ℕ, false, length, sym, ◌∙◌, arith}
use Rattle.std.proofs.lemmas.Bool.Decides.{nat_tests}
use Rattle.rpc_engine.proofs.Ports.{retained_more}
use Rattle.rpc_engine.proofs.memory_port.MemoryPortDatagramPort.send.Goals as goal
use Rattle.rpc_engine.proofs.memory_port.MemoryPortDatagramPort.send.Goals.{then-self-used, else-self-used}

-- sizes that are not full have a place more
place_left : (count n : ℕ) → (n == count) ≡ false → count ≤ n → count < n
place_left count n h few = grind (arith, nat_tests)

full : (a b : ℕ) → nat_lt a b ≡ false → a < b → ⊥
full a b h k = grind (arith, nat_tests)

pub returns-clause-sent : goal.returns-clause-sent
returns-clause-sent c =
    let port = c.args.self.now in
    let place : port.count < length port.sizes.now = elim c.if-self-used.branch [
      | then-self-used w ↦ absurd (full _ _ (sym w.is_full-is ∙ c.if-is_full.false) w.if-self-used.true)
      | else-self-used w ↦
          place_left port.count (length port.sizes.now) (sym w.is_full-is ∙ c.if-is_full.false) port.few
    ] in
    rw c.copy_from_slice.ensures.after
    (retained_more port.count port.sizes.now port.buffer.now c.args.datagram.now _ port.used port.joined port.fits
    place)
