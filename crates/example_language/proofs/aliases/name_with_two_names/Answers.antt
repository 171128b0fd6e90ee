use Rattle.xdr_constants.specs.Constants.{known}
use Rattle.xdr_aliases.specs.Aliases.{behind_arguments, given, followed, resolved_from}
use Rattle.example_language.proofs.aliases.name_with_two_names.Goals as goal

pub returns : goal.returns
unfolding known behind_arguments given followed resolved_from
returns c = c.resolved_tokens.ensures.tokens
