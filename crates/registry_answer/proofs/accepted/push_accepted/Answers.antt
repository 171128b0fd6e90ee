use Rattle.std.proofs.Common.{◌≡◌, arith, ap, sym, ◌∙◌, option_map}
use Rattle.rpc_message.specs.View.{lent_call_view}
use Rattle.registry_rows.specs.Program.{program}
use Rattle.registry_answer.specs.Owners.{owner_text}
use Rattle.registry_answer.specs.Private.Table.{procedure_of}
use Rattle.registry_answer.specs.Views.{netid_of}
use Rattle.registry_answer.proofs.Chains.{on_ok}
use Rattle.registry_answer.proofs.Entries.{version_is, no_version_is}
use Rattle.registry_answer.proofs.Statuses.{pushes_no_program, pushes_no_version, pushes_no_procedure}
use Rattle.registry_answer.proofs.accepted.push_accepted.Goals as goal

pub returns-then-asked-ne-PROGRAM-clause-ok : goal.returns-then-asked-ne-PROGRAM-clause-ok
returns-then-asked-ne-PROGRAM-clause-ok g c =
    let a = c.args.asked.now in
    on_ok c.append_head.result _ _ (pushes_no_program _ (netid_of a.transport) (owner_text a.owner)
    (lent_call_view a.call) _ _ (λ (e : a.call.prog ≡ program). omega arith)) c.append_head.ensures.ok

pub returns-then-not-is_version-clause-ok : goal.returns-then-not-is_version-clause-ok
returns-then-not-is_version-clause-ok g c =
    let a = c.args.asked.now in
    on_ok c.push_prog_mismatch.result _ _ (pushes_no_version _ (netid_of a.transport) (owner_text a.owner)
    (lent_call_view a.call) _ _ (omega arith)
    (no_version_is c.is_version.result a.call.vers c.is_version.ensures c.if-not-is_version.true))
    c.push_prog_mismatch.ensures.ok

pub push_procedure-requires : goal.push_procedure-requires
push_procedure-requires g c = record {
  program_is = omega arith;
  version = version_is c.is_version.result c.args.asked.now.call.vers c.is_version.ensures c.if-not-is_version.false;
  procedure_is = sym c.procedure_at.ensures ∙ ap (option_map procedure_of) c.in-Some.is;
}

pub returns-in-None-clause-ok : goal.returns-in-None-clause-ok
returns-in-None-clause-ok g c =
    let a = c.args.asked.now in
    on_ok c.append_head-in-None.result _ _ (pushes_no_procedure _ (netid_of a.transport) (owner_text a.owner)
    (lent_call_view a.call) _ _ (omega arith)
    (version_is c.is_version.result a.call.vers c.is_version.ensures c.if-not-is_version.false)
    (sym c.procedure_at.ensures ∙ ap (option_map procedure_of) c.in-None.is)) c.append_head-in-None.ensures.ok
