use Rattle.std.proofs.Common.{◌-◌, ◌%◌, arith}
use Rattle.std.proofs.lemmas.List.{take-replicate}
use Rattle.c_values.proofs.encoding.zeros_behind.Goals as goal

pub returns : goal.returns
returns c = take-replicate ((4 - c.args.count % 4) % 4) 3 0 (omega arith)
