use Rattle.std.proofs.Common.{◌≡◌, drop}
use Rattle.xdr_tokens.specs.Keywords.{word_among}
use Rattle.xdr_tokens.proofs.keyword.among.Given as goal

abbrev pub invariant-loop-word : goal.invariant-loop-word
invariant-loop-word l = word_among (drop l.word-index l.words) l.run ≡ word_among l.words l.run
