use Rattle.std.proofs.Common.{arith, subst, sym, ◌∙◌}
use Rattle.rpc_message.specs.Cases.{IsCase}
use Rattle.xdr_units.proofs.Bytes.{bytes_at}
use Rattle.rpc_message.proofs.CallLaws.{case_found, case_again}
use Rattle.rpc_message.proofs.calls.read_lent_call.Goals as goal

pub returns-clause-found : goal.returns-clause-found
returns-clause-found c =
    subst (IsCase c.args.bytes.now) c.case_of.ensures
    (case_found c.args.bytes.now (bytes_at c.args.bytes.now (λ i. omega (arith, c.type_inv.bytes i))))

pub returns-clause-only : goal.returns-clause-only
returns-clause-only c = λ k h.
    sym c.case_of.ensures ∙ case_again c.args.bytes.now k
    (bytes_at c.args.bytes.now (λ i. omega (arith, c.type_inv.bytes i))) h
