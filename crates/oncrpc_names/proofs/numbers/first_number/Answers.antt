use Rattle.std.proofs.Common.{ap, sym, decimal, is_some, true≢false, Some, Option, None, ℕ}
use Rattle.xdr_units.proofs.Cutting.{no_cut}
use Rattle.oncrpc_names.proofs.Unique.{before_dot}
use Rattle.oncrpc_names.proofs.numbers.first_number.Goals as goal

pub returns-in_err-part-clause-only : goal.returns-in_err-part-clause-only
returns-in_err-part-clause-only c = λ n rest small same.
    absurd (no_cut (decimal n) rest c.args.text.now c.in_err-part.ensures same)

pub returns-in_err-decimal_number-clause-only : goal.returns-in_err-decimal_number-clause-only
returns-in_err-decimal_number-clause-only c = λ n rest small same.
    let part = c.in_ok-part.part.now in
    let w = before_dot c.args.text.now part c.in_ok-part.rest.now rest n c.in_ok-part.ensures.0 c.in_ok-part.ensures.1
    small same in
    absurd (true≢false (sym (ap is_some (c.in_err-decimal_number.ensures.only n small w.0))))

pub returns-clause-only : goal.returns-clause-only
returns-clause-only c = λ n rest small same.
    let part = c.in_ok-part.part.now in
    let w = before_dot c.args.text.now part c.in_ok-part.rest.now rest n c.in_ok-part.ensures.0 c.in_ok-part.ensures.1
    small same in
    (ap the (c.in_ok-decimal_number.ensures.only n small w.0), w.1)
  where
    the : Option ℕ → ℕ
    the None = 0
    the (Some n) = n
