-- What the cursor passes over is passed over.
use Rattle.std.proofs.Common.{Ok, Err}
use Rattle.xdr_cursor.specs.declared.fault.CursorFault.TheVariants as fault
use Rattle.c_cursors.proofs.Parts.{astray_wanting}
use Rattle.c_cursors.proofs.Answered.{passed_stuck}
use Rattle.c_cursors.proofs.passing.skip_in.Goals as goal

pub returns-in-Ok : goal.returns-in-Ok
returns-in-Ok c = record {
  known = tt;
  passed = c.in-Ok.ensures.skipped;
  stuck = passed_stuck c.args.state.now.cursor c.skip.new.self (Ok _) c.in-Ok.ensures.lost;
}

pub returns-in-Err-NoMemory : goal.returns-in-Err-NoMemory
returns-in-Err-NoMemory c =
    let h = rw c.in-Err-NoMemory.field-0-is at c.in-Err-NoMemory.ensures in record {
      known = tt;
      passed = λ es awaits. (h.fault es awaits).1;
      stuck = passed_stuck c.args.state.now.cursor c.skip.new.self (Err fault.NoMemory) h.lost;
    }

pub returns-in-Err-Astray : goal.returns-in-Err-Astray
returns-in-Err-Astray c =
    let h = rw c.in-Err-Astray.field-0-is at c.in-Err-Astray.ensures in record {
      known = tt;
      passed = λ es awaits. absurd (astray_wanting (h.fault es awaits).0);
      stuck = passed_stuck c.args.state.now.cursor c.skip.new.self (Err fault.Astray) h.lost;
    }
