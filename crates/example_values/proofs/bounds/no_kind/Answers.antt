use Rattle.example_values.proofs.Only.{none_told}
use Rattle.example_values.proofs.bounds.no_kind.Goals as goal

pub returns : goal.returns
returns c =
    none_told c.args.schema.now.kinds c.in_ok-bounds.bounds c.args.id.place c.range.result c.in_ok-bounds.ensures
    c.requires c.range.ensures.at
