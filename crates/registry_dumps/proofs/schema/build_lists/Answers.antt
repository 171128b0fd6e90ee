use Rattle.registry_dumps.proofs.Legal.{built}
use Rattle.registry_dumps.proofs.schema.build_lists.Goals as goal

pub returns : goal.returns
returns c = built c.build.result _ c.requires c.build.ensures
