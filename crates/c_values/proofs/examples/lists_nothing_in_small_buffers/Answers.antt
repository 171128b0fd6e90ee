-- The one answer with status 8 is that the buffer is too small, and then both stay.
use Rattle.std.proofs.Common.{◌<◌, ◌⊎◌, length, sym, ◌∙◌, subst}
use Rattle.c_values.specs.declared.listed.PartsOutcome.{PartsOutcome}
use Rattle.c_values.proofs.Reported.{small_reported}
use Rattle.c_values.proofs.examples.lists_nothing_in_small_buffers.Goals as goal

pub returns-clause-retained : goal.returns-clause-retained
returns-clause-retained c = λ e.
    let t = c.parts_by_declarations.ensures.answer in
    let reported = small_reported _ _ _ _ _ _ _ t.0 t.1 (sym e ∙ t.2) in
    (reported.0.parts_stay, reported.0.names_stay)

pub returns-clause-small : goal.returns-clause-small
returns-clause-small c = λ e.
    let t = c.parts_by_declarations.ensures.answer in
    let reported = small_reported _ _ _ _ _ _ _ t.0 t.1 (sym e ∙ t.2) in
    subst (λ (o : PartsOutcome). (length c.args.parts.now < o.parts) ⊎ (length c.args.names.now < o.names)) (sym t.3)
    reported.1
