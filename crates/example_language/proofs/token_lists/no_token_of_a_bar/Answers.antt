use Rattle.std.proofs.Common.{refl, ◌∙◌}
use Rattle.xdr_tokens.specs.Bytes.{run_length, after_comment, value_from, number_of}
use Rattle.xdr_tokens.specs.Keywords.{word_among, word_or_name}
use Rattle.xdr_tokens.specs.Private.Front.{comment_at, piece_at}
use Rattle.example_language.proofs.Cutting.{cut, no_tokens}
use Rattle.example_language.proofs.token_lists.no_token_of_a_bar.Goals as goal

pub returns : goal.returns
unfolding cut run_length after_comment value_from number_of word_among word_or_name comment_at piece_at
returns c = c.is_ok.ensures.value ∙ no_tokens _ c.tokens.result refl c.tokens.ensures.found
