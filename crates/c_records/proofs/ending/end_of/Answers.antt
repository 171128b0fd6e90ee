-- What the reader says is what the handle's contract says.
use Rattle.c_records.proofs.Ends.{well, bad}
use Rattle.c_records.proofs.ending.end_of.Goals as goal

pub returns-in-Ok : goal.returns-in-Ok
returns-in-Ok c =
    let f = c.in-Ok.ensures in
    well _ _ c.args.state.now.waits c.args.state.now.last.items _ c.if-state.false f.limit f.ends f.concludes

pub returns-in-Err : goal.returns-in-Err
returns-in-Err c =
    let f = c.in-Err.ensures in
    bad _ _ c.args.state.now.waits c.args.state.now.last.items c.in-Err.fault c.if-state.false f.limit f.ends
    f.concludes
