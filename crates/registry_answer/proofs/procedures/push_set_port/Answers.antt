use Rattle.std.proofs.Common.{List, ℕ, ap, ◌∙◌}
use Rattle.registry_rows.specs.Ports.{set_port}
use Rattle.registry_answer.proofs.Reporting.{reports, reported_behind}
use Rattle.registry_answer.proofs.procedures.push_set_port.Goals as goal

pub returns-in-Ok-clause-ok : goal.returns-in-Ok-clause-ok
returns-in-Ok-clause-ok g c =
    reports _ c.args.xid c.args.out.now.items _ _ c.set_port.new.self c.in-Ok.done
    (c.in-Ok.ensures.ok ∙ ap
    (λ (o : List ℕ). set_port c.args.directory.now c.args.m.prog c.args.m.vers c.args.m.prot c.args.m.port o)
    c.text-owner.ensures.text)
    c.in_ok-push_false.ensures.ok c.tell.ensures

pub returns-in-Ok-clause-begins : goal.returns-in-Ok-clause-begins
returns-in-Ok-clause-begins g c =
    reported_behind c.args.xid c.args.out.now.items _ _ c.in-Ok.done c.in_ok-push_false.ensures.ok c.tell.ensures
