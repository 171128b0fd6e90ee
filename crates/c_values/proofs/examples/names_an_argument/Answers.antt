-- The one answer with status 4 says that the name names nothing.
use Rattle.std.proofs.Common.{sym, ◌∙◌}
use Rattle.c_values.proofs.Argument.{argument_reported}
use Rattle.c_values.proofs.examples.names_an_argument.Goals as goal

pub returns : goal.returns
returns c = λ e.
    let t = c.check_by_declarations.ensures.answer in
    argument_reported _ c.requires _ _ _ t.0 t.1 (sym e ∙ t.2)
