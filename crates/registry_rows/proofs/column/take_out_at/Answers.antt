use Rattle.std.proofs.Common.{ap, sym, ◌∙◌, subst, remove, List, ℕ}
use Rattle.registry_rows.specs.Columns.{programs_of}
use Rattle.registry_rows.specs.Views.{plain_rows, AreEntries}
use Rattle.registry_rows.proofs.Takings.{entries_removed, plain_removed, programs_removed}
use Rattle.registry_rows.proofs.column.take_out_at.Goals as goal

pub returns-clause-entries : goal.returns-clause-entries
returns-clause-entries g c =
    subst AreEntries (sym c.shift_remove_index.ensures.entries)
    (entries_removed c.args.rows.now.entries c.args.at c.requires.entries)

pub returns-clause-rows : goal.returns-clause-rows
returns-clause-rows g c =
    ap plain_rows c.shift_remove_index.ensures.entries ∙ plain_removed c.args.rows.now.entries c.args.at

pub returns-clause-column : goal.returns-clause-column
returns-clause-column g c =
    c.remove.ensures.items ∙ ap (λ (ps : List ℕ). remove ps c.args.at) c.requires.column
    ∙ sym (programs_removed (plain_rows c.args.rows.now.entries) c.args.at)
    ∙ sym (ap programs_of (returns-clause-rows g c))
