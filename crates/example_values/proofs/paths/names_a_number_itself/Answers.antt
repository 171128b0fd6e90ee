use Rattle.example_values.proofs.NumberPaths.{number_known, named_itself, only_part}
use Rattle.example_values.proofs.paths.names_a_number_itself.Goals as goal

pub find-requires : goal.find-requires
find-requires c = number_known c.args.schema.now.kinds c.args.kind.place c.requires

pub returns-clause-part : goal.returns-clause-part
returns-clause-part c =
    only_part c.args.schema.now.kinds c.args.kind.place c.requires c.args.limits c.args.input.now c.find.result
    c.find.ensures.found

pub returns-clause-there : goal.returns-clause-there
returns-clause-there c =
    λ e.
    let n = c.find.ensures.none e in
    n.3 _ (named_itself c.args.schema.now.kinds c.args.kind.place c.requires n.0 n.2.2.fits)
