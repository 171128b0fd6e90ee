use Rattle.std.proofs.Common.{List, ℕ, ap, ◌∙◌}
use Rattle.registry_rows.specs.Ports.{unset_port}
use Rattle.registry_answer.proofs.Reporting.{reports, reported_behind}
use Rattle.registry_answer.proofs.procedures.push_unset_port.Goals as goal

pub returns-clause-ok : goal.returns-clause-ok
returns-clause-ok g c =
    reports _ c.args.xid c.args.out.now.items _ _ c.unset_port-done.new.self c.unset_port-done.result
    (c.unset_port-done.ensures.value
    ∙ ap (λ (o : List ℕ). unset_port c.args.directory.now c.args.m.prog c.args.m.vers o)
    c.text-owner.ensures.text)
    c.in_ok-push_false.ensures.ok c.tell.ensures

pub returns-clause-begins : goal.returns-clause-begins
returns-clause-begins g c =
    reported_behind c.args.xid c.args.out.now.items _ _ c.unset_port-done.result c.in_ok-push_false.ensures.ok
    c.tell.ensures
