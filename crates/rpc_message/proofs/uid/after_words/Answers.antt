use Rattle.std.proofs.Common.{sym, ◌∙◌}
use Rattle.std.proofs.lemmas.Result.{err_from_is_err_and}
use Rattle.rpc_message.proofs.Passing.{goes_past, is_cut, is_past}
use Rattle.rpc_message.proofs.uid.after_words.Goals as goal

pub returns-in_err-after : goal.returns-in_err-after
returns-in_err-after c =
    let p = err_from_is_err_and c.from_residual.result c.from_residual.ensures.1 in
    rw (p.1, p.2) (sym c.loop.invariant ∙ is_cut c.in_err-after.field-0.0 c.args.count c.loop.counter c.loop.rest.now
    c.loop-test.true c.in_err-after.ensures)

pub loop-preserved : goal.loop-preserved
loop-preserved c =
    sym (goes_past c.args.count c.loop.counter c.loop.rest.now _ c.in_ok-after.after.now c.loop-test.true
    c.in_ok-after.ensures) ∙ c.loop.invariant

pub returns : goal.returns
returns c = sym c.loop.invariant ∙ is_past c.args.count c.loop.counter c.loop.rest.now c.loop-test.false
