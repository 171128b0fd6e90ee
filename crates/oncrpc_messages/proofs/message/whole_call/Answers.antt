-- Bytes that are in another case are no call.
use Rattle.std.proofs.Common.{subst}
use Rattle.rpc_message.specs.Message.{Whole}
use Rattle.rpc_message.specs.View.{lent_case_view}
use Rattle.rpc_message.specs.declared.message.LentRead.{LentRead}
use Rattle.oncrpc_messages.proofs.Known.{IsWholeCase, not_whole}
use Rattle.oncrpc_messages.proofs.message.whole_call.Goals as goal

pub returns-in-NotACall : goal.returns-in-NotACall
returns-in-NotACall c = λ k h.
    subst (λ (r : LentRead). IsWholeCase (lent_case_view r)) c.in-NotACall.is
    (not_whole (lent_case_view c.read_lent_call.result) k (c.read_lent_call.ensures.only (Whole k) h))

pub returns-in-OtherVersion : goal.returns-in-OtherVersion
returns-in-OtherVersion c = λ k h.
    subst (λ (r : LentRead). IsWholeCase (lent_case_view r)) c.in-OtherVersion.is
    (not_whole (lent_case_view c.read_lent_call.result) k (c.read_lent_call.ensures.only (Whole k) h))

pub returns-in-BadCred : goal.returns-in-BadCred
returns-in-BadCred c = λ k h.
    subst (λ (r : LentRead). IsWholeCase (lent_case_view r)) c.in-BadCred.is
    (not_whole (lent_case_view c.read_lent_call.result) k (c.read_lent_call.ensures.only (Whole k) h))

pub returns-in-BadVerf : goal.returns-in-BadVerf
returns-in-BadVerf c = λ k h.
    subst (λ (r : LentRead). IsWholeCase (lent_case_view r)) c.in-BadVerf.is
    (not_whole (lent_case_view c.read_lent_call.result) k (c.read_lent_call.ensures.only (Whole k) h))
