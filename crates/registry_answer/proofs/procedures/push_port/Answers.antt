use Rattle.std.proofs.Common.{ℕ, ◌++◌, ap, ◌∙◌}
use Rattle.xdr_units.specs.Numbers.{word}
use Rattle.rpc_message.specs.Heads.{accepted_head}
use Rattle.registry_answer.proofs.Chains.{then}
use Rattle.registry_answer.proofs.procedures.push_port.Goals as goal

pub returns-clause-ok : goal.returns-clause-ok
returns-clause-ok g c =
    let old = c.args.out.now.items in
    then old (accepted_head c.args.xid 0) (word c.get_port.result) _ _ c.in_ok-append_head.ensures.ok
    c.in_ok-push_word.ensures.ok
    ∙ ap (λ (n : ℕ). old ++ (accepted_head c.args.xid 0 ++ word n)) c.get_port.ensures.value
