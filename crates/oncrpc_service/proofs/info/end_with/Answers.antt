-- What is printed of an answer.
use Rattle.std.proofs.Common.{refl, arith, inl, inr}
use Rattle.oncrpc_service.proofs.Ending.{not_done, three_or_four, device_failed, wanted}
use Rattle.oncrpc_service.proofs.info.end_with.Goals as goal

pub returns-in-Ok : goal.returns-in-Ok
returns-in-Ok g c =
    let known = c.in-Ok.ensures.known in
    record {
      known = inl known;
      printed = λ low. c.in-Ok.ensures.reported;
      unlost = λ low. c.in-Ok.ensures.none_failed;
      silent = λ low. refl;
      device = λ three. absurd (omega (arith, three, known));
      wanting = λ four. absurd (omega (arith, four, known));
    }

pub returns-in-Err : goal.returns-in-Err
returns-in-Err g c =
    let status = c.report.ensures in
    let failed = c.in-Err.ensures.failed in
    let f = c.in-Err.failure in
    record {
      known = inr (three_or_four f _ status);
      printed = λ low. absurd (not_done f _ status low);
      unlost = λ low. absurd (not_done f _ status low);
      silent = λ low. absurd (not_done f _ status low);
      device = λ three. device_failed c.args.vers c.args.answer f _ _ _ _ _ _ status failed three;
      wanting = λ four. wanted c.args.vers c.args.answer f _ _ _ _ _ _ status failed four;
    }
