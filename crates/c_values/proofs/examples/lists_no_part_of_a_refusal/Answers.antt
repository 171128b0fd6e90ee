-- The one answer with status 2 is a refusal.
use Rattle.std.proofs.Common.{◌≤◌, length, sym, ap, ◌∙◌, subst}
use Rattle.c_values.specs.declared.listed.PartsOutcome.{PartsOutcome}
use Rattle.c_values.proofs.Reported.{refusal_reported}
use Rattle.c_values.proofs.examples.lists_no_part_of_a_refusal.Goals as goal

pub returns-clause-none : goal.returns-clause-none
returns-clause-none c = λ e.
    let t = c.parts_by_declarations.ensures.answer in
    let reported = refusal_reported _ _ _ _ _ _ _ t.0 t.1 (sym e ∙ t.2) in
    (ap (λ (o : PartsOutcome). o.parts) t.3 ∙ reported.1, ap (λ (o : PartsOutcome). o.names) t.3 ∙ reported.2)

pub returns-clause-retained : goal.returns-clause-retained
returns-clause-retained c = λ e.
    let t = c.parts_by_declarations.ensures.answer in
    let reported = refusal_reported _ _ _ _ _ _ _ t.0 t.1 (sym e ∙ t.2) in
    (reported.0.parts_stay, reported.0.names_stay)

pub returns-clause-within : goal.returns-clause-within
returns-clause-within c = λ e.
    let t = c.parts_by_declarations.ensures.answer in
    let reported = refusal_reported _ _ _ _ _ _ _ t.0 t.1 (sym e ∙ t.2) in
    subst (λ (o : PartsOutcome). o.at ≤ length c.args.input.now) (sym t.3) reported.3
