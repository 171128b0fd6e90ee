-- The one answer with status 26 is that the items are bad.
use Rattle.std.proofs.Common.{◌≡◌, ◌≤◌, length, sym, ap, ◌∙◌, subst}
use Rattle.c_answers.specs.declared.outcome.Outcome.{Outcome}
use Rattle.c_values.proofs.Refused.{items_reported}
use Rattle.c_values.proofs.examples.tells_why_items_are_refused.Goals as goal

pub returns-clause-reason : goal.returns-clause-reason
returns-clause-reason c = λ e.
    let t = c.write_by_declarations.ensures.answer in
    subst (λ (o : Outcome). 1 ≤ o.why) (sym t.3) (items_reported _ _ _ _ _ _ _ _ t.0 t.1 (sym e ∙ t.2)).0.0

pub returns-clause-place : goal.returns-clause-place
returns-clause-place c = λ e few.
    let t = c.write_by_declarations.ensures.answer in
    let told = (items_reported _ _ _ _ _ _ _ _ t.0 t.1 (sym e ∙ t.2)).0 in
    ap (λ (o : Outcome). o.at) t.3 ∙ told.1 (sym (ap (λ (o : Outcome). o.why) t.3) ∙ few)

pub returns-clause-retained : goal.returns-clause-retained
returns-clause-retained c = λ e.
    let t = c.write_by_declarations.ensures.answer in
    (items_reported _ _ _ _ _ _ _ _ t.0 t.1 (sym e ∙ t.2)).1
