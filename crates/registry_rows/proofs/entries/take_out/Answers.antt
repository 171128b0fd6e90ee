use Rattle.std.proofs.Common.{ap, sym, ◌∙◌, subst}
use Rattle.std.specs.Map.{remove_entry}
use Rattle.registry_rows.specs.Views.{plain_rows, AreEntries}
use Rattle.registry_rows.proofs.Keyed.{key_eq}
use Rattle.registry_rows.proofs.Removed.{taken_out, entries_left}
use Rattle.registry_rows.proofs.entries.take_out.Goals as goal

pub returns-clause-entries : goal.returns-clause-entries
returns-clause-entries g c =
    subst AreEntries (sym
    (c.shift_remove.ensures.entries ∙ ap (λ key. remove_entry (key_eq key) c.args.rows.now.entries) c.new.ensures))
    (entries_left c.args.prog c.args.vers c.args.netid.now c.args.rows.now.entries c.requires.entries)

pub returns-clause-rows : goal.returns-clause-rows
returns-clause-rows g c =
    ap plain_rows (c.shift_remove.ensures.entries
    ∙ ap (λ key. remove_entry (key_eq key) c.args.rows.now.entries) c.new.ensures)
    ∙ taken_out c.args.prog c.args.vers c.args.netid.now c.args.rows.now.entries c.requires.entries
