use Rattle.std.proofs.Common.{List, ℕ, ap, ◌∙◌}
use Rattle.registry_rows.specs.Rows.{row_of}
use Rattle.registry_rows.specs.Steps.{set}
use Rattle.registry_answer.proofs.Reporting.{reports, reported_behind}
use Rattle.registry_answer.proofs.procedures.push_set.Goals as goal

pub returns-in-Ok-clause-ok : goal.returns-in-Ok-clause-ok
returns-in-Ok-clause-ok g c =
    reports _ c.args.xid c.args.out.now.items _ _ c.set.new.self c.in-Ok.done
    (c.in-Ok.ensures.ok ∙ ap (λ (o : List ℕ). set c.args.directory.now
    (row_of c.args.r.prog c.args.r.vers c.args.r.netid.now c.args.r.address.now o)) c.text-owner.ensures.text)
    c.in_ok-push_false.ensures.ok c.tell.ensures

pub returns-in-Ok-clause-begins : goal.returns-in-Ok-clause-begins
returns-in-Ok-clause-begins g c =
    reported_behind c.args.xid c.args.out.now.items _ _ c.in-Ok.done c.in_ok-push_false.ensures.ok c.tell.ensures
