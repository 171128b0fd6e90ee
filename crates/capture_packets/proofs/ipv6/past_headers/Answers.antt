use Rattle.std.proofs.Common.{◌≡◌, ◌-◌, ◌+◌, suc, arith, sym, ◌∙◌}
use Rattle.std.proofs.lemmas.Result.{err_from_is_err_and}
use Rattle.capture_packets.proofs.Extensions.{passed_ok, passed_err, passed_none}
use Rattle.capture_packets.proofs.ipv6.past_headers.Goals as goal

pub loop-passed-preserved : goal.loop-passed-preserved
loop-passed-preserved c =
    let i = c.loop-passed._passed in
    let e : 8 - i ≡ suc (8 - (i + 1)) = omega arith in
    sym (passed_ok (8 - i) (8 - (i + 1)) _ _ e c.in_ok-rest.ensures) ∙ c.loop-passed.invariant

pub returns-in_err-rest : goal.returns-in_err-rest
returns-in_err-rest c =
    let i = c.loop-passed._passed in
    let e : 8 - i ≡ suc (8 - (i + 1)) = omega arith in
    let p = err_from_is_err_and c.from_residual.result c.from_residual.ensures.1 in
    rw (p.1, p.2) (sym c.loop-passed.invariant ∙ passed_err (8 - i) (8 - (i + 1)) _ _ e c.in_err-rest.ensures)

pub returns : goal.returns
returns c =
    let i = c.loop-passed._passed in
    let e : 8 - i ≡ 0 = omega arith in
    sym c.loop-passed.invariant ∙ passed_none (8 - i) _ e
