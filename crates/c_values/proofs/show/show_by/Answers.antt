-- The name names a kind of the schema.
use Rattle.xdr_lang.specs.Views.{declared_of}
use Rattle.c_values.proofs.Showing.{shown_by}
use Rattle.c_values.proofs.show.show_by.Goals as goal

pub show_into-requires : goal.show_into-requires
show_into-requires c = c.in-Some.ensures.known

pub returns : goal.returns
returns c =
    let within = c.in-Some-new.ensures in
    shown_by (declared_of c.args.declared.now) c.args.name.now c.args.depth c.args.bytes c.args.input.now
    c.args.buffer.now c.show_into.new.buffer c.show_into.new.written c.in-Some.kind.place c.in-Some.ensures
    within.0 c.show_into.result (rw within.1 at c.show_into.ensures)
