-- Nothing waits once all is written.
use Rattle.std.proofs.Common.{sym, ap, ◌∙◌}
use Rattle.c_answers.specs.declared.outcome.Outcome.{Outcome}
use Rattle.c_registry.proofs.Shown.{once}
use Rattle.c_registry.proofs.session_examples.puts_output_once.Goals as goal

pub returns : goal.returns
returns c = λ e.
    let a = c.show_output-shown.ensures in
    let t = c.take_written-took.ensures in
    let z = c.show_output-again.ensures in
    let d = once _ _ _ _ _ _ _ a.answer.0 t.0 z.answer.0 a.answer.1 (rw a.stay at t.1) z.answer.1
    (sym e ∙ a.answer.2) (ap (λ (o : Outcome). o.at) a.answer.3) in
    (t.2 ∙ d.0, z.answer.2 ∙ d.1, z.answer.3 ∙ d.2, d.3)
