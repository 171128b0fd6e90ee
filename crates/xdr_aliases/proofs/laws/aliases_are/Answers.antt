use Rattle.xdr_aliases.proofs.Numbered.{names_are, others_stay}
use Rattle.xdr_aliases.proofs.laws.aliases_are.Goals as goal

pub returns-clause-names : goal.returns-clause-names
returns-clause-names c = names_are

pub returns-clause-others : goal.returns-clause-others
returns-clause-others c = others_stay
