use Rattle.std.proofs.Common.{◌++◌, length}
use Rattle.std.proofs.lemmas.List.{drop-replicate}
use Rattle.registry_rows.proofs.key.padded.Goals as goal

pub returns : goal.returns
returns c = λ j. c.copy_from_slice.ensures.after j ++ drop-replicate (length c.args.netid.now) 64 0 j
