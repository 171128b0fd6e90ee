use Rattle.std.proofs.Common.{sym, ◌∙◌, true}
use Rattle.registry_rows.specs.Views.{plain_rows}
use Rattle.registry_rows.proofs.Removed.{unset_refused, unset_done, not_empty}
use Rattle.registry_rows.proofs.column.remove_one_beside.Goals as goal

pub returns-in-Some-clause-step : goal.returns-in-Some-clause-step
returns-in-Some-clause-step g c =
    (λ j. ((c.take_out_at.ensures.rows ∙ c.in-Some.ensures.one) j, true))
    ∙ unset_done c.args.prog c.args.vers c.args.netid.now c.args.owner.now (not_empty c.args.netid.now c.requires.named)
    (plain_rows c.args.rows.now.entries) c.requires.entries.none_twice (sym c.in-Some.ensures.may)

pub returns-in-None-clause-step : goal.returns-in-None-clause-step
returns-in-None-clause-step g c =
    unset_refused c.args.prog c.args.vers c.args.netid.now c.args.owner.now
    (not_empty c.args.netid.now c.requires.named) (plain_rows c.args.rows.now.entries)
    c.requires.entries.none_twice (sym c.in-None.ensures.may)
