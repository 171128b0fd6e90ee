-- A number or a name.
use Rattle.std.proofs.Common.{rules}
use Rattle.oncrpc_procedures.proofs.Meaning.{by_number, no_number_means, number_means}
use Rattle.oncrpc_procedures.proofs.parts.is_meant.Goals as goal

pub returns-in-Some : goal.returns-in-Some
returns-in-Some c =
    by_number c.args.part.now c.args.name.now c.args.number _ (search rules)
    (number_means c.args.part.now c.in-Some.read c.args.number (search rules) c.in-Some.ensures.found
    c.in-Some.ensures.only)

pub returns-in-None : goal.returns-in-None
returns-in-None c =
    by_number c.args.part.now c.args.name.now c.args.number _ (search rules)
    (no_number_means c.args.part.now c.args.number (search rules) c.in-None.ensures.only)
