use Rattle.std.proofs.Common.{sym}
use Rattle.registry_rows.specs.Views.{plain_row, plain_rows}
use Rattle.registry_rows.proofs.Columns.{seen_at}
use Rattle.registry_rows.proofs.Takings.{filled}
use Rattle.registry_rows.proofs.column.fill.Goals as goal

pub loop-key-preserved : goal.loop-key-preserved
loop-key-preserved g c =
    filled (plain_rows c.args.rows.now.entries) c.loop-key.column.items c.push.new.self.items c.len.result
    (plain_row c.in-Some.row.now) c.len.ensures.value
    (seen_at c.args.rows.now.entries c.len.result _ (sym c.in-Some.ensures.entry)) c.loop-key.invariant
    c.push.ensures.items
