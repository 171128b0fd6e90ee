use Rattle.std.proofs.Common.{◌∙◌}
use Rattle.rpc_directory.proofs.directory.Directory.unset.Goals as goal

pub returns-then-is_empty-clause-refused : goal.returns-then-is_empty-clause-refused
returns-then-is_empty-clause-refused g c none = c.remove_all_beside.ensures.refused none ∙ c.self.view_is

pub returns-else-is_empty-clause-refused : goal.returns-else-is_empty-clause-refused
returns-else-is_empty-clause-refused g c none = c.remove_one_beside.ensures.refused none ∙ c.self.view_is
