use Rattle.std.proofs.Common.{arith}
use Rattle.rpc_engine.proofs.Ports.{next_received}
use Rattle.rpc_engine.proofs.memory_port.MemoryPortDatagramPort.receive.Goals as goal

pub returns-clause-received : goal.returns-clause-received
returns-clause-received c =
    let port = c.args.self.now in
    next_received port.waiting.now port.next c.min-n.result _ c.copy_from_slice.new.self _
    (omega (arith, c.if-self.false, port.left)) c.min-n.ensures c.copy_from_slice.ensures.after
