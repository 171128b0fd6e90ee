use Rattle.std.proofs.Common.{◌<◌, length, arith}
use Rattle.xdr_json_reader.proofs.Lines.{line_step, column_step}
use Rattle.xdr_json_reader.proofs.reading_place.line_and_column.Goals as goal
use Rattle.xdr_json_reader.proofs.reading_place.line_and_column.Goals.{then-text-i-eq10, else-text-i-eq10}

pub loop-i-preserved : goal.loop-i-preserved
loop-i-preserved c =
    let text = c.args.text.now in
    let within : c.loop-i.i < length c.args.text.now = omega arith in
    let i = c.loop-i.i in
    let held = c.loop-i.invariant in
    elim c.if-text-i-eq10.branch [
      | then-text-i-eq10 w ↦
          let two = line_step text i c.loop-i.line within held.0 w.if-text-i-eq10.true in
          (omega (arith, two.0), omega (arith, two.1), omega (arith, held.2), omega arith)
      | else-text-i-eq10 w ↦
          let two = column_step text i c.loop-i.line c.loop-i.column within held.0 held.1 w.if-text-i-eq10.false in
          (omega (arith, two.0), omega (arith, two.1), omega (arith, held.2), omega (arith, held.3))
    ]
