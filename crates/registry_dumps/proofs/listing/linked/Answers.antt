use Rattle.std.proofs.Common.{rules}
use Rattle.xdr_types.proofs.Views.{tree-Some}
use Rattle.xdr_types.specs.declared.value.Value.{the_lemmas}
use Rattle.registry_dumps.proofs.listing.linked.Goals as goal

pub returns : goal.returns
returns c = search (rules, the_lemmas, tree-Some)
