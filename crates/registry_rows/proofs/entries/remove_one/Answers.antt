use Rattle.std.proofs.Common.{sym, ◌∙◌, true}
use Rattle.registry_rows.specs.Views.{plain_rows}
use Rattle.registry_rows.proofs.Removed.{found_short, unset_refused, unset_done, not_empty}
use Rattle.registry_rows.proofs.entries.remove_one.Goals as goal

pub returns-then-not-may_take_out-clause-step : goal.returns-then-not-may_take_out-clause-step
returns-then-not-may_take_out-clause-step g c =
    unset_refused c.args.prog c.args.vers c.args.netid.now c.args.owner.now
    (not_empty c.args.netid.now c.requires.named) (plain_rows c.args.rows.now.entries)
    c.requires.entries.none_twice (sym c.may_take_out.ensures ∙ c.if-not-may_take_out.true)

pub take_out-requires-clause-short : goal.take_out-requires-clause-short
take_out-requires-clause-short g c =
    found_short c.args.prog c.args.vers c.args.netid.now c.args.owner.now c.args.rows.now.entries
    c.requires.entries.keyed
    (sym c.may_take_out.ensures ∙ c.if-not-may_take_out.false)

pub returns-clause-step : goal.returns-clause-step
returns-clause-step g c =
    (λ j. (c.take_out.ensures.rows j, true))
    ∙ unset_done c.args.prog c.args.vers c.args.netid.now c.args.owner.now (not_empty c.args.netid.now c.requires.named)
    (plain_rows c.args.rows.now.entries)
    c.requires.entries.none_twice (sym c.may_take_out.ensures ∙ c.if-not-may_take_out.false)
