use Rattle.xdr_tokens.proofs.Pieces.{run_is}
use Rattle.xdr_tokens.proofs.cutting.piece.Goals as goal

pub word_or_name-requires : goal.word_or_name-requires
word_or_name-requires c = rw (c.split_at.ensures.front, c.run_length.ensures.value) (run_is c.args.text.now)
