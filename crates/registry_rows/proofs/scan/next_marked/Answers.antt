use Rattle.std.proofs.Common.{sym, ap, ◌∙◌, arith}
use lib.Count.{count_trailing_zeros}
use Rattle.registry_rows.proofs.Columns.{goes_on, stops}
use Rattle.registry_rows.proofs.scan.next_marked.Goals as goal

pub returns-then-found-ne0 : goal.returns-then-found-ne0
returns-then-found-ne0 c =
    let found = c.marks-found in
    let run = stops c.args.prog c.args.column.now c.loop-at.at (omega arith) (omega (arith, found.ensures))
    ∙ ap (count_trailing_zeros 64) (sym found.ensures) in
    omega (arith, run, c.loop-at.invariant.passed)

pub loop-at-preserved : goal.loop-at-preserved
loop-at-preserved c =
    let run = goes_on c.args.prog c.args.column.now c.loop-at.at (omega arith) (omega (arith, c.marks-found.ensures)) in
    record { passed = omega (arith, run, c.loop-at.invariant.passed); within = omega arith }
