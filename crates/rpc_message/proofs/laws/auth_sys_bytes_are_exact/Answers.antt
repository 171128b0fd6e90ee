use Rattle.std.proofs.Common.{sym, ap, subst, ◌∙◌}
use Rattle.rpc_message.specs.Spelling.{auth_sys, AuthSysBytes}
use Rattle.rpc_message.proofs.SysLaws.{one_sys}
use Rattle.rpc_message.proofs.laws.auth_sys_bytes_are_exact.Goals as goal

pub returns : goal.returns
returns c = λ p q a b x y. (
  λ e. x.parts ∙ ap auth_sys e
      ∙ sym y.parts,
  λ e. one_sys p q b (subst (AuthSysBytes p) e x) y,
)
