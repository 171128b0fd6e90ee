use Rattle.std.proofs.Common.{sym, ap, subst, ◌∙◌}
use Rattle.rpc_message.specs.Spelling.{call, CallBytes}
use Rattle.rpc_message.proofs.CallLaws.{one_call}
use Rattle.rpc_message.proofs.laws.call_bytes_are_exact.Goals as goal

pub returns : goal.returns
returns c = λ p q a b x y. (λ e. x.parts ∙ ap call e ∙ sym y.parts, λ e. one_call p q b (subst (CallBytes p) e x) y)
