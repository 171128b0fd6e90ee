-- What the cursor hands out is put, with its name.
use Rattle.std.proofs.Common.{Ok, Err, None, refl}
use Rattle.xdr_cursor.specs.declared.fault.CursorFault.TheVariants as fault
use Rattle.c_cursors.proofs.Parts.{given_part, stuck, astray_wanting}
use Rattle.c_cursors.proofs.giving.give.Goals as goal

pub returns-in-Ok-Some : goal.returns-in-Ok-Some
returns-in-Ok-Some c =
    let h = rw c.in-Ok-Some.field-0-is at c.in-Ok-Some.ensures in
    given_part c.args.schema.now.kinds c.args.input.now c.args.cursor.now c.next.new.self c.in-Ok-Some.lent
    (record { part = c.args.part.now; buffer = c.args.buffer.now })
    (record { part = c.put_part.new.part; buffer = c.put_part.new.buffer }) h.step.0 h.part c.put_part.ensures.part
    c.put_part.ensures.name h.lost

pub returns-in-Ok-None : goal.returns-in-Ok-None
returns-in-Ok-None c =
    let h = rw c.in-Ok-None.field-0-is at c.in-Ok-None.ensures in record {
      put = refl;
      next = λ es awaits room. h.part es awaits;
      stuck = stuck c.args.cursor.now c.next.new.self (Ok None) h.lost;
    }

pub returns-in-Err-NoMemory : goal.returns-in-Err-NoMemory
returns-in-Err-NoMemory c =
    let h = rw c.in-Err-NoMemory.field-0-is at c.in-Err-NoMemory.ensures in record {
      put = refl;
      next = λ es awaits room. (h.fault es awaits).1;
      stuck = stuck c.args.cursor.now c.next.new.self (Err fault.NoMemory) h.lost;
    }

pub returns-in-Err-Astray : goal.returns-in-Err-Astray
returns-in-Err-Astray c =
    let h = rw c.in-Err-Astray.field-0-is at c.in-Err-Astray.ensures in record {
      put = refl;
      next = λ es awaits room. absurd (astray_wanting (h.fault es awaits).0);
      stuck = stuck c.args.cursor.now c.next.new.self (Err fault.Astray) h.lost;
    }
