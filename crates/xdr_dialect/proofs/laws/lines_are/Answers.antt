use Rattle.xdr_dialect.proofs.Lined.{texts, sections, hashes, gaps}
use Rattle.xdr_dialect.proofs.laws.lines_are.Goals as goal

pub returns-clause-texts : goal.returns-clause-texts
returns-clause-texts c = texts

pub returns-clause-sections : goal.returns-clause-sections
returns-clause-sections c = sections

pub returns-clause-hashes : goal.returns-clause-hashes
returns-clause-hashes c = hashes

pub returns-clause-gaps : goal.returns-clause-gaps
returns-clause-gaps c = gaps
