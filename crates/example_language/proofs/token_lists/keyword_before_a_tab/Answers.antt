use Rattle.std.proofs.Common.{refl}
use Rattle.xdr_tokens.specs.Bytes.{run_length, after_comment, value_from, number_of}
use Rattle.xdr_tokens.specs.Keywords.{word_among, word_or_name}
use Rattle.xdr_tokens.specs.Private.Front.{comment_at, piece_at}
use Rattle.example_language.proofs.Cutting.{cut, reports_tokens, memory_of_tokens}
use Rattle.example_language.proofs.token_lists.keyword_before_a_tab.Goals as goal

pub returns-clause-found : goal.returns-clause-found
unfolding cut run_length after_comment value_from number_of word_among word_or_name comment_at piece_at
returns-clause-found c = reports_tokens _ _ c.tokens.result refl c.tokens.ensures.found

pub returns-clause-taken : goal.returns-clause-taken
unfolding cut run_length after_comment value_from number_of word_among word_or_name comment_at piece_at
returns-clause-taken c = memory_of_tokens _ c.tokens.result refl c.tokens.ensures.only
