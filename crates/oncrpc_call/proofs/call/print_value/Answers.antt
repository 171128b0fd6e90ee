-- A text was written, or its beginning.
use Rattle.std.proofs.Common.{arith, inl, inr, refl}
use Rattle.oncrpc_call.proofs.call.print_value.Goals as goal

pub returns-in-Ok : goal.returns-in-Ok
returns-in-Ok g c = record {
  known = inl refl;
  written = λ zero. c.in-Ok.ensures.ok;
  unlost = λ zero. c.in-Ok.ensures.none_failed;
  silent = λ zero. refl;
  cut = λ three. absurd (omega (arith, three));
  failed = λ three. absurd (omega (arith, three));
  told = λ three. absurd (omega (arith, three));
}

pub returns-in-Err : goal.returns-in-Err
returns-in-Err g c =
    let status = c.say_failure.ensures.status in
    record {
      known = inr status;
      written = λ zero. absurd (omega (arith, status, zero));
      unlost = λ zero. absurd (omega (arith, status, zero));
      silent = λ zero. absurd (omega (arith, status, zero));
      cut = λ three. record {
        count = c.in-Err._cut.written;
        cut = c.in-Err.ensures.cut.0;
        written = c.in-Err.ensures.cut.1;
      };
      failed = λ three. c.in-Err.ensures.one_failed;
      told = λ three. c.say_failure.ensures.said;
    }
