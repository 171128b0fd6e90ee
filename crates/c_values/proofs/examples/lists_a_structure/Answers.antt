-- The one answer with status 0 has the parts of the one value that the bytes spell.
use Rattle.std.proofs.Common.{sym, ◌∙◌}
use Rattle.c_values.proofs.Pair.{pair_listed}
use Rattle.c_values.proofs.examples.lists_a_structure.Goals as goal

pub returns-clause-parts : goal.returns-clause-parts
returns-clause-parts c = λ e.
    let t = rw c.requires.input at c.parts_by_declarations.ensures.answer in
    (pair_listed _ c.requires.held _ _ t.0 t.1 (sym e ∙ t.2)).0

pub returns-clause-names : goal.returns-clause-names
returns-clause-names c = λ e.
    let t = rw c.requires.input at c.parts_by_declarations.ensures.answer in
    (pair_listed _ c.requires.held _ _ t.0 t.1 (sym e ∙ t.2)).1

pub returns-clause-outcome : goal.returns-clause-outcome
returns-clause-outcome c = λ e.
    let t = rw c.requires.input at c.parts_by_declarations.ensures.answer in
    t.3 ∙ (pair_listed _ c.requires.held _ _ t.0 t.1 (sym e ∙ t.2)).2
