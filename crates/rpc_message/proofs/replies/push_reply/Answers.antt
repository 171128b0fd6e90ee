use Rattle.rpc_message.specs.View.{auth_view, status_view, why_view}
use Rattle.rpc_message.proofs.ReplyLaws.{accepted_written, denied_written}
use Rattle.rpc_message.proofs.replies.push_reply.Goals as goal

pub returns-in_ok-push_status-in-Accepted-clause-ok : goal.returns-in_ok-push_status-in-Accepted-clause-ok
returns-in_ok-push_status-in-Accepted-clause-ok c =
    rw c.in-Accepted.is (accepted_written c.args.out.now.items c.push_word.new.out.items
    c.push_word-in-Accepted.new.out.items c.push_word-in-Accepted-2.new.out.items c.push_auth.new.out.items
    c.push_status.new.out.items c.in-Accepted.xid (auth_view c.in-Accepted.verf) (status_view c.in-Accepted.status)
    c.in_ok-push_word-in-Accepted.ensures.ok c.in_ok-push_word-in-Accepted-2.ensures.ok
    c.in_ok-push_word-in-Accepted-3.ensures.ok c.in_ok-push_auth-in-Accepted.ensures.ok
    c.in_ok-push_status-in-Accepted.ensures.ok)

pub returns-in_ok-push_why-in-Denied-clause-ok : goal.returns-in_ok-push_why-in-Denied-clause-ok
returns-in_ok-push_why-in-Denied-clause-ok c =
    rw c.in-Denied.is (denied_written c.args.out.now.items c.push_word-in-Denied.new.out.items
    c.push_word-in-Denied-2.new.out.items c.push_word-in-Denied-3.new.out.items c.push_why.new.out.items
    c.in-Denied.xid (why_view c.in-Denied.why) c.in_ok-push_word-in-Denied.ensures.ok
    c.in_ok-push_word-in-Denied-2.ensures.ok c.in_ok-push_word-in-Denied-3.ensures.ok
    c.in_ok-push_why-in-Denied.ensures.ok)
