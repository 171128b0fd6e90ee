use Rattle.xdr_dialect.specs.Dialect.{rewritten_places}
use Rattle.xdr_dialect.specs.Rewriting.{rewritten_from}
use Rattle.xdr_dialect.specs.Library.{lacking, declares_from}
use Rattle.example_language.proofs.rewritings.bare_unsigned.Goals as goal

pub returns : goal.returns
unfolding rewritten_places rewritten_from lacking declares_from
returns c = c.meant_tokens.ensures.places
