use Rattle.std.proofs.Common.{List, ℕ, ap, ◌∙◌}
use Rattle.registry_rows.specs.Steps.{unset}
use Rattle.registry_answer.proofs.Reporting.{reports, reported_behind}
use Rattle.registry_answer.proofs.procedures.push_unset.Goals as goal

pub returns-clause-ok : goal.returns-clause-ok
returns-clause-ok g c =
    reports _ c.args.xid c.args.out.now.items _ _ c.unset-done.new.self c.unset-done.result
    (c.unset-done.ensures.value
    ∙ ap (λ (o : List ℕ). unset c.args.directory.now c.args.r.prog c.args.r.vers c.args.r.netid.now o)
    c.text-owner.ensures.text)
    c.in_ok-push_false.ensures.ok c.tell.ensures

pub returns-clause-begins : goal.returns-clause-begins
returns-clause-begins g c =
    reported_behind c.args.xid c.args.out.now.items _ _ c.unset-done.result c.in_ok-push_false.ensures.ok c.tell.ensures
