-- The name names a kind of the schema.
use Rattle.xdr_lang.specs.Views.{declared_of}
use Rattle.c_values.proofs.Parting.{parted_by}
use Rattle.c_values.proofs.parts.parts_by.Goals as goal

pub parts_into-requires : goal.parts_into-requires
parts_into-requires c = c.in-Some.ensures.known

pub returns : goal.returns
returns c =
    let within = c.in-Some-new.ensures in
    parted_by (declared_of c.args.declared.now) c.args.name.now c.args.depth c.args.bytes c.args.input.now _ _
    c.in-Some.kind.place c.in-Some.ensures within.0 c.parts_into.result (rw within.1 at c.parts_into.ensures)
