use Rattle.std.proofs.Common.{Ok, Some, ap, sym, ◌∙◌, arith}
use Rattle.xdr_units.proofs.Bytes.{bytes_at}
use Rattle.rpc_message.specs.Private.Reading.{◌>>=◌, auth_sys_at}
use Rattle.rpc_message.proofs.StepLaws.{bind_ok, ok_is, ok_no_err}
use Rattle.rpc_message.proofs.SysLaws.{sys_takes, sys_again}
use Rattle.rpc_message.proofs.uid.read_auth_sys_uid.Goals as goal

pub returns-in-Ok-clause-found : goal.returns-in-Ok-clause-found
returns-in-Ok-clause-found c =
    let a = bind_ok (auth_sys_at c.args.bytes.now) (λ a. Ok a.uid) c.in-Ok.uid c.in-Ok.ensures in
    record {
      body = a.0;
      spelled = sys_takes c.args.bytes.now a.0
          (bytes_at c.args.bytes.now (λ i. omega (arith, c.type_inv.bytes i))) a.1;
      same = ok_is a.0.uid c.in-Ok.uid a.2;
    }

pub returns-in-Ok-clause-only : goal.returns-in-Ok-clause-only
returns-in-Ok-clause-only c = λ a p. ap (λ x. Some x)
    (ok_is c.in-Ok.uid a.uid (sym c.in-Ok.ensures ∙ ap (λ r. r >>= λ b. Ok b.uid) (sys_again a c.args.bytes.now p)))

pub returns-in-Err-clause-only : goal.returns-in-Err-clause-only
returns-in-Err-clause-only c = λ a p. absurd (ok_no_err a.uid _
    (sym (ap (λ r. r >>= λ b. Ok b.uid) (sys_again a c.args.bytes.now p)) ∙ c.in-Err.ensures))
