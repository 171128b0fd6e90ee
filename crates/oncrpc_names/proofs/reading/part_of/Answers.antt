use Rattle.std.proofs.Common.{rules, ap, ℕ, Option, Some, None}
use Rattle.oncrpc_names.proofs.Unique.{argument_is}
use Rattle.oncrpc_names.proofs.reading.part_of.Goals as goal

pub returns-in-Some-clause-only : goal.returns-in-Some-clause-only
returns-in-Some-clause-only c = λ part h same.
    ap Some (argument_is c.args.text.now c.in-Some.place (search rules) c.in-Some.ensures.found
    (λ n small e. ap the (c.in-Some.ensures.only n small e)) part h same)
  where
    the : Option ℕ → ℕ
    the None = 0
    the (Some n) = n
