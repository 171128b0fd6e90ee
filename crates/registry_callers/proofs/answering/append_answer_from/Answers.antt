use Rattle.std.proofs.Common.{sym, ◌∙◌, arith}
use Rattle.xdr_units.proofs.Bytes.{bytes_at}
use Rattle.rpc_message.specs.Message.{Whole}
use Rattle.rpc_message.specs.View.{lent_call_view}
use Rattle.registry_answer.specs.Views.{netid_of}
use Rattle.registry_callers.proofs.Written.{as_ever_appends, neither, not_whole}
use Rattle.registry_callers.proofs.answering.append_answer_from.Goals as goal

pub returns-in_default : goal.returns-in_default
returns-in_default g c =
    as_ever_appends c.args.caller c.args.directory.now (netid_of c.args.transport) c.args.message.now
    c.args.out.now.items c.append_answer.new.directory c.append_answer.new.out.items
    (λ d read. absurd (not_whole c.read_lent_call.result c.in_default.not-Whole d
    (c.read_lent_call.ensures.only (Whole d) read)))
    c.append_answer.result c.append_answer.ensures

pub append_change-requires-clause-call : goal.append_change-requires-clause-call
append_change-requires-clause-call g c = rw c.in-Whole.is at c.read_lent_call.ensures.found

pub append_look_up-requires-clause-call : goal.append_look_up-requires-clause-call
append_look_up-requires-clause-call g c = rw c.in-Whole.is at c.read_lent_call.ensures.found

pub append_look_up-requires-clause-bytes : goal.append_look_up-requires-clause-bytes
append_look_up-requires-clause-bytes g c =
    bytes_at c.args.message.now (λ i. omega (arith, c.type_inv.message i))

pub returns-else-is_look_up : goal.returns-else-is_look_up
returns-else-is_look_up g c =
    let read = rw c.in-Whole.is at c.read_lent_call.ensures.found in
    as_ever_appends c.args.caller c.args.directory.now (netid_of c.args.transport) c.args.message.now
    c.args.out.now.items c.append_answer-else-is_look_up.new.directory
    c.append_answer-else-is_look_up.new.out.items
    (neither c.call_bytes_are_exact.ensures (lent_call_view c.in-Whole.call) c.args.message.now read
    (sym c.is_change.ensures ∙ c.if-is_change.false) (sym c.is_look_up.ensures ∙ c.if-is_look_up.false))
    c.append_answer-else-is_look_up.result c.append_answer-else-is_look_up.ensures
