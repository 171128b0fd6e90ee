use Rattle.std.proofs.Common.{take, sym, ap, ◌∙◌}
use Rattle.rpc_engine.proofs.Ports.{pieces_joined}
use Rattle.rpc_engine.proofs.memory_port.MemoryPort.sent_bytes.Goals as goal

pub returns : goal.returns
returns c =
    let port = c.args.self.now in
    ap (λ n. take n port.buffer.now) (sym port.joined)
    ∙ sym (pieces_joined (take port.count port.sizes.now) port.buffer.now)
