use Rattle.std.proofs.Common.{[]}
use Rattle.xdr_types.specs.Layout.{entries}
use Rattle.example_values.proofs.GoneOver.{number_parts, first_is}
use Rattle.example_values.proofs.cursors.begins_with_the_number.Goals as goal

pub returns : goal.returns
returns c =
    let kinds = c.args.schema.now.kinds in
    let kind = c.args.kind.place in
    let b = c.in-Ok.ensures.begun in
    let es = entries kinds kind b.0 in
    first_is c.next.new.self kinds c.args.input.now es [] _ (number_parts kinds kind c.requires.kind b.0 b.1.2.fits)
    c.in-Ok-next.part (c.in-Ok-next.ensures.part es b.2)
