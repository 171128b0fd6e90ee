use Rattle.std.proofs.Common.{ap, ◌∙◌, Some, arith}
use Rattle.example_program.proofs.Serves.{all_written}
use Rattle.example_program.proofs.Asks.{under_header}
use Rattle.example_program.proofs.service.prints_rows_under_their_header.Goals as goal

pub returns : goal.returns
returns g c = λ zero.
    let e = c.info_over.ensures in
    let reported = e.ends.printed (omega (arith, zero)) in
    let under = under_header e.answer _ reported.0 zero reported.1 in
    (under.0, all_written _ _ _ c.requires.fresh reported.2 ∙ ap Some under.1)
