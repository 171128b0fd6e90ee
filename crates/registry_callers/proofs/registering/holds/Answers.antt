use Rattle.std.proofs.Common.{sym, ◌∙◌, arith}
use Rattle.registry_rows.specs.Views.{plain_row}
use Rattle.registry_callers.specs.From.{is_same}
use Rattle.registry_callers.proofs.Holding.{found, none_more, none_of_all}
use Rattle.registry_callers.proofs.registering.holds.Goals as goal

pub returns-then-is_at : goal.returns-then-is_at
returns-then-is_at g c =
    sym (found (is_same (plain_row c.args.row.now)) c.args.directory.now c.loop-index.index
    (omega (arith, c.rows-index-end.ensures.value)) (sym c.is_at.ensures ∙ c.if-is_at.true))

pub loop-index-preserved : goal.loop-index-preserved
loop-index-preserved g c =
    none_more (is_same (plain_row c.args.row.now)) c.args.directory.now c.loop-index.index
    (omega (arith, c.rows-index-end.ensures.value)) c.loop-index.invariant (sym c.is_at.ensures ∙ c.if-is_at.false)

pub returns : goal.returns
returns g c =
    sym (none_of_all (is_same (plain_row c.args.row.now)) c.args.directory.now c.loop-index.index
    (omega (arith, c.rows-index-end.ensures.value)) c.loop-index.invariant)
