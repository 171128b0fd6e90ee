use Rattle.std.proofs.Common.{◌≡◌, ◌+◌, ◌-◌, [], ◌++◌, length, take, refl, ap, ◌∙◌, arith}
use Rattle.std.proofs.lemmas.Slice.{take-put_mid}
use Rattle.rpc_record.specs.declared.fault.RecordFault.TheVariants as fault
use Rattle.rpc_record.proofs.Sending.{Sends-retained, Sends-out, Sends-trans, SendingCut-out, SendingCut-after}
use Rattle.rpc_record.proofs.Sending.{SendingCut-more}
use Rattle.rpc_record.proofs.outbox.Outbox.put.Goals as goal

pub returns-then-bytes-used-clause-ok : goal.returns-then-bytes-used-clause-ok
returns-then-bytes-used-clause-ok g c =
    let used = c.args.self.now.used in
    let buffer = c.args.self.now.buffer in
    let bytes = c.args.bytes.now in
    let same : c.copy_from_slice.new.self ≡ bytes = c.copy_from_slice.ensures.after in
    let joined = take-put_mid used (used + length bytes - used) buffer c.copy_from_slice.new.self (used + length bytes)
    (omega (arith, ap length same)) (omega arith) in
    Sends-retained c.args.self.now _ _ bytes (joined ∙ ap (λ k. take used buffer ++ k) same) refl

pub returns-in-Err-clause-cut : goal.returns-in-Err-clause-cut
returns-in-Err-clause-cut g c =
    SendingCut-more c.args.self.now _ _ [] c.args.bytes.now c.in-Err.fault c.in-Err.ensures.cut

pub returns-in-Ok-write_whole-clause-ok : goal.returns-in-Ok-write_whole-clause-ok
returns-in-Ok-write_whole-clause-ok g c =
    Sends-trans c.args.self.now c.flush.new.self _ _ [] c.in-Ok.ensures.ok _ _ c.args.bytes.now _ refl
    (Sends-out c.flush.new.self _ _ _ _ c.in-Ok.ensures.empty c.in-Ok.ensures.empty c.saturating_add-self.ensures
    c.in-Ok-write_whole.ensures.ok)

pub returns-in-Err-write_whole-clause-cut : goal.returns-in-Err-write_whole-clause-cut
returns-in-Err-write_whole-clause-cut g c =
    SendingCut-after c.args.self.now c.flush.new.self _ _ [] c.in-Ok.ensures.ok _ c.args.bytes.now c.args.bytes.now
    (fault.Write c.saturating_add.result) refl
    (SendingCut-out c.flush.new.self _ _ _ c.in-Err-write_whole.cut.written c.saturating_add.result
    c.in-Ok.ensures.empty c.saturating_add.ensures c.in-Err-write_whole.ensures.cut)
