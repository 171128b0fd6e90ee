-- The name names a kind of the schema.
use Rattle.std.specs.Prelude.{option_map}
use Rattle.xdr_lang.specs.Views.{declared_of}
use Rattle.c_cursors.specs.Held.{cursor_of}
use Rattle.c_cursors.proofs.Holding.{begun_by}
use Rattle.c_cursors.proofs.beginning.start_by.Goals as goal

pub returns-clause-answer : goal.returns-clause-answer
returns-clause-answer c =
    let within = c.in-Some-new.ensures in
    begun_by (declared_of c.args.declarations.now) c.args.name.now c.args.depth c.args.bytes c.args.input.now
    (option_map cursor_of c.args.handle.now.held) _ c.in-Some.kind.place c.in-Some.ensures.kind within.0
    c.start_in.result (rw (c.declared.ensures, c.in-Some.ensures.stay, within.1) at c.start_in.ensures)
