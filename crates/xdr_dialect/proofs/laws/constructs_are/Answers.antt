use Rattle.xdr_dialect.proofs.Constructed.{kinds, tags, others}
use Rattle.xdr_dialect.proofs.laws.constructs_are.Goals as goal

pub returns-clause-kinds : goal.returns-clause-kinds
returns-clause-kinds c = kinds

pub returns-clause-tags : goal.returns-clause-tags
returns-clause-tags c = tags

pub returns-clause-others : goal.returns-clause-others
returns-clause-others c = others
