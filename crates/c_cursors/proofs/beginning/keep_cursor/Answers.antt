-- What is kept is the cursor.
use Rattle.std.proofs.Common.{ap, ◌∙◌, Option, Some, option_map}
use Rattle.c_cursors.specs.Held.{cursor_of}
use Rattle.c_cursors.specs.declared.state.State.{State}
use Rattle.c_cursors.proofs.Holding.{kept}
use Rattle.c_cursors.proofs.beginning.keep_cursor.Goals as goal

pub counted-requires : goal.counted-requires
counted-requires c = rw c.used-count.ensures c.requires

pub returns-in-Ok : goal.returns-in-Ok
returns-in-Ok c =
    kept c.args.cursor c.args.input.now (option_map cursor_of c.args.handle.now.held)
    (option_map cursor_of c.keep.new.handle.held) c.used-count.result c.used-count.ensures
    (ap (λ (o : Option State). option_map cursor_of o)
    (c.keep.ensures ∙ ap (λ (s : State). Some s) c.in-Ok.ensures.ok))
    c.counted.result c.counted.ensures
