use Rattle.std.proofs.Common.{ap, sym, ◌∙◌, option_map, is_some}
use Rattle.std.specs.Map.{lookup}
use Rattle.registry_rows.specs.Rows.{is_at}
use Rattle.registry_rows.specs.Views.{plain_row, plain_rows}
use Rattle.registry_rows.proofs.Keyed.{find_by_key, none_longer, key_eq, seen_copied, find_is_any, is_some-seen}
use Rattle.registry_rows.proofs.Bounds.{found_is_row, seen}
use Rattle.registry_rows.proofs.Twice.{registry}
use Rattle.registry_rows.proofs.entries.find.Goals as goal

pub returns-then-netid-gt64-clause-value : goal.returns-then-netid-gt64-clause-value
returns-then-netid-gt64-clause-value g c =
    sym (none_longer c.args.prog c.args.vers c.args.netid.now c.args.rows.now.entries c.requires.keyed
    c.if-netid-gt64.true)

pub returns-clause-value : goal.returns-clause-value
returns-clause-value g c =
    seen_copied c.get.result ∙ ap (option_map plain_row) c.get.ensures.value
    ∙ ap (λ key. option_map plain_row (lookup (key_eq key) c.args.rows.now.entries)) c.new.ensures
    ∙ find_by_key c.args.prog c.args.vers c.args.netid.now c.args.rows.now.entries c.requires.keyed

pub returns-then-netid-gt64-clause-some : goal.returns-then-netid-gt64-clause-some
returns-then-netid-gt64-clause-some g c =
    let test = is_at c.args.prog c.args.vers c.args.netid.now in
    sym (ap is_some (none_longer c.args.prog c.args.vers c.args.netid.now c.args.rows.now.entries c.requires.keyed
    c.if-netid-gt64.true)) ∙ find_is_any test (plain_rows c.args.rows.now.entries)

pub returns-clause-some : goal.returns-clause-some
returns-clause-some g c =
    let test = is_at c.args.prog c.args.vers c.args.netid.now in
    is_some-seen (λ r. plain_row r.now) c.get.result
    ∙ ap is_some (seen_copied c.get.result ∙ ap (option_map plain_row) c.get.ensures.value
    ∙ ap (λ key. option_map plain_row (lookup (key_eq key) c.args.rows.now.entries)) c.new.ensures
    ∙ find_by_key c.args.prog c.args.vers c.args.netid.now c.args.rows.now.entries c.requires.keyed)
    ∙ find_is_any test (plain_rows c.args.rows.now.entries)

pub returns-clause-row : goal.returns-clause-row
returns-clause-row g c =
    let rows = plain_rows c.args.rows.now.entries in
    let test = is_at c.args.prog c.args.vers c.args.netid.now in
    let found =
    seen_copied c.get.result ∙ ap (option_map plain_row) c.get.ensures.value
    ∙ ap (λ key. option_map plain_row (lookup (key_eq key) c.args.rows.now.entries)) c.new.ensures
    ∙ find_by_key c.args.prog c.args.vers c.args.netid.now c.args.rows.now.entries c.requires.keyed in
    seen (λ r. plain_row r.now) c.get.result _ found
    (λ r e. found_is_row test rows (registry c.args.rows.now.entries c.requires).each r e)
