use Rattle.std.proofs.Common.{◌≡◌, ◌++◌, List, ℕ, arith, ap, ◌∙◌}
use Rattle.rpc_message.specs.Heads.{accepted_head}
use Rattle.registry_rows.specs.LookUp.{getaddr}
use Rattle.registry_answer.specs.Private.Parsed.{text}
use Rattle.registry_answer.specs.Views.{netid_of}
use Rattle.registry_answer.proofs.Chains.{then}
use Rattle.registry_answer.proofs.procedures.push_address.Goals as goal

pub push_text-requires : goal.push_text-requires
push_text-requires g c = omega (arith, c.getaddr-address.ensures.short)

pub returns-clause-ok : goal.returns-clause-ok
returns-clause-ok g c =
    let rows = c.args.directory.now in
    let r = c.args.r in
    let old = c.args.out.now.items in
    let is : c.getaddr-address.result.now ≡ getaddr rows r.prog r.vers (netid_of c.args.transport) =
    c.getaddr-address.ensures.value ∙ ap (λ (n : List ℕ). getaddr rows r.prog r.vers n) c.netid.ensures in
    then old (accepted_head c.args.xid 0) (text c.getaddr-address.result.now) _ _ c.in_ok-append_head.ensures.ok
    c.in_ok-push_text.ensures.ok ∙ ap (λ (t : List ℕ). old ++ (accepted_head c.args.xid 0 ++ text t)) is
