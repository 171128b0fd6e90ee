use Rattle.xdr_tokens.proofs.Ascii.{run_utf8, ok_where}
use Rattle.xdr_tokens.proofs.keyword.text_of.Goals as goal

pub unwrap-requires : goal.unwrap-requires
unwrap-requires c = ok_where _ _ c.from_utf8.result (run_utf8 c.args.run.now c.requires) c.from_utf8.ensures.cases
