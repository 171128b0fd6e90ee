use Rattle.registry_rows.proofs.Twice.{registry}
use Rattle.registry_rows.proofs.entries.count.Goals as goal

pub returns-clause-registry : goal.returns-clause-registry
returns-clause-registry g c = registry c.args.rows.now.entries c.requires
