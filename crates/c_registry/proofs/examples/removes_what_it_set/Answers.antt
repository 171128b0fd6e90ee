-- A row that was set is there to be removed.
use Rattle.std.proofs.Common.{sym, ◌∙◌}
use Rattle.c_registry.proofs.Reported.{removed}
use Rattle.c_registry.proofs.examples.removes_what_it_set.Goals as goal

pub returns : goal.returns
returns c = λ e.
    let s = c.set_row-set.ensures in
    let u = c.unset_rows-unset.ensures in
    u.2 ∙ removed _ _ _ _ _ _ s.0 u.0 s.1 u.1 (sym e ∙ s.2)
