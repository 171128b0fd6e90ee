use Rattle.std.proofs.Common.{[], ◌∷◌}
use Rattle.example_values.proofs.NumberPaths.{number_known, no_part}
use Rattle.example_values.proofs.paths.nothing_is_inside_a_number.Goals as goal

pub find-requires : goal.find-requires
find-requires c = number_known c.args.schema.now.kinds c.args.kind.place c.requires

pub returns : goal.returns
returns c =
    no_part c.args.schema.now.kinds c.args.kind.place c.requires c.args.limits c.args.input.now 104
    (105 ∷ 103 ∷ 104 ∷ []) c.find.result c.find.ensures.found
