use Rattle.std.proofs.Common.{take, sym, arith}
use Rattle.rpc_engine.proofs.Ports.{pieces_sizes}
use Rattle.rpc_engine.proofs.memory_port.MemoryPort.sent_sizes.Goals as goal

pub returns : goal.returns
returns c =
    let port = c.args.self.now in
    sym (pieces_sizes (take port.count port.sizes.now) port.buffer.now (omega (arith, port.joined, port.fits)))
