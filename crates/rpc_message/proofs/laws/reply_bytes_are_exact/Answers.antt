use Rattle.std.proofs.Common.{sym, ap, subst, ◌∙◌}
use Rattle.rpc_message.specs.Spelling.{reply, ReplyBytes}
use Rattle.rpc_message.proofs.ReplyLaws.{one_reply}
use Rattle.rpc_message.proofs.laws.reply_bytes_are_exact.Goals as goal

pub returns : goal.returns
returns c = λ p q a b x y. (λ e. x.parts ∙ ap reply e ∙ sym y.parts, λ e. one_reply p q b (subst (ReplyBytes p) e x) y)
