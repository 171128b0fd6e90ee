use Rattle.std.proofs.Common.{arith}
use Rattle.xdr_units.proofs.Bytes.{bytes_at}
use Rattle.rpc_message.proofs.ReplyLaws.{is_found, is_only}
use Rattle.rpc_message.proofs.FaultLaws.{is_fault}
use Rattle.rpc_message.proofs.replies.read_reply.Goals as goal

pub returns-clause-found : goal.returns-clause-found
returns-clause-found c = is_found c.args.bytes.now c.reply_at.result
    (bytes_at c.args.bytes.now (λ i. omega (arith, c.type_inv.bytes i))) c.reply_at.ensures

pub returns-clause-only : goal.returns-clause-only
returns-clause-only c = λ r e. is_only c.args.bytes.now c.reply_at.result r e c.reply_at.ensures

pub returns-clause-fault : goal.returns-clause-fault
returns-clause-fault c = is_fault c.args.bytes.now c.reply_at.result
    (bytes_at c.args.bytes.now (λ i. omega (arith, c.type_inv.bytes i))) c.reply_at.ensures
