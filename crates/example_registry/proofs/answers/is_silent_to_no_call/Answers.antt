use Rattle.std.proofs.Common.{arith}
use Rattle.xdr_units.proofs.Bytes.{bytes_at}
use Rattle.example_registry.proofs.Messages.{silence}
use Rattle.example_registry.proofs.answers.is_silent_to_no_call.Goals as goal

pub returns-clause-silent : goal.returns-clause-silent
returns-clause-silent g c =
    (silence c.five_cases.ensures.exclusive _ _ _ c.args.message.now
    (bytes_at c.args.message.now (λ i. omega (arith, c.type_inv.message i))) c.requires c.answer.result
    c.answer.ensures).0

pub returns-clause-rows : goal.returns-clause-rows
returns-clause-rows g c =
    (silence c.five_cases.ensures.exclusive _ _ _ c.args.message.now
    (bytes_at c.args.message.now (λ i. omega (arith, c.type_inv.message i))) c.requires c.answer.result
    c.answer.ensures).1
