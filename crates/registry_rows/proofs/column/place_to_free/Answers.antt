use Rattle.std.proofs.Common.{◌≡◌, ap, sym, ◌∙◌, Some, Option, option_map, position, false}
use Rattle.std.specs.Map.{lookup, keys_of}
use Rattle.std.specs.Option.{option_map_or}
use Rattle.registry_rows.specs.Keys.{key_of}
use Rattle.registry_rows.specs.Rows.{Row}
use Rattle.registry_rows.specs.Steps.{may_remove}
use Rattle.registry_rows.specs.Views.{plain_row, plain_rows}
use Rattle.registry_rows.proofs.Keyed.{find_by_key, none_longer, key_eq}
use Rattle.registry_rows.proofs.Removed.{taken_out}
use Rattle.registry_rows.proofs.Takings.{plain_removed, removed_at}
use Rattle.registry_rows.proofs.column.place_to_free.Goals as goal

pub returns-then-netid-gt64-clause-may : goal.returns-then-netid-gt64-clause-may
returns-then-netid-gt64-clause-may g c =
    sym (ap (λ (o : Option Row). option_map_or (may_remove c.args.owner.now) o false)
    (none_longer c.args.prog c.args.vers c.args.netid.now c.args.rows.now.entries c.requires.keyed
    c.if-netid-gt64.true))

pub returns-then-may_remove-clause-may : goal.returns-then-may_remove-clause-may
returns-then-may_remove-clause-may g c =
    let es = c.args.rows.now.entries in
    let found = ap (option_map plain_row) c.in-Some.ensures.value
    ∙ ap (λ key. option_map plain_row (lookup (key_eq key) es)) c.new.ensures
    ∙ find_by_key c.args.prog c.args.vers c.args.netid.now es c.requires.keyed in
    sym c.if-may_remove.true ∙ c.may_remove.ensures
    ∙ ap (λ (o : Option Row). option_map_or (may_remove c.args.owner.now) o false) found

pub returns-else-may_remove-clause-may : goal.returns-else-may_remove-clause-may
returns-else-may_remove-clause-may g c =
    let es = c.args.rows.now.entries in
    let found = ap (option_map plain_row) c.in-Some.ensures.value
    ∙ ap (λ key. option_map plain_row (lookup (key_eq key) es)) c.new.ensures
    ∙ find_by_key c.args.prog c.args.vers c.args.netid.now es c.requires.keyed in
    sym c.if-may_remove.false ∙ c.may_remove.ensures
    ∙ ap (λ (o : Option Row). option_map_or (may_remove c.args.owner.now) o false) found

pub returns-in-None-clause-may : goal.returns-in-None-clause-may
returns-in-None-clause-may g c =
    let es = c.args.rows.now.entries in
    let found = ap (option_map plain_row) c.in-None.ensures.value
    ∙ ap (λ key. option_map plain_row (lookup (key_eq key) es)) c.new.ensures
    ∙ find_by_key c.args.prog c.args.vers c.args.netid.now es c.requires.keyed in
    ap (λ (o : Option Row). option_map_or (may_remove c.args.owner.now) o false) found

pub returns-then-may_remove-clause-one : goal.returns-then-may_remove-clause-one
returns-then-may_remove-clause-one g c =
    let es = c.args.rows.now.entries in
    let test = key_eq (key_of c.args.prog c.args.vers c.args.netid.now) in
    let index : Some c.in-Some.at ≡ position test (keys_of es) = c.in-Some.ensures.index
    ∙ ap (λ key. position (key_eq key) (keys_of es)) c.new.ensures in
    sym (plain_removed es c.in-Some.at) ∙ sym (ap plain_rows (removed_at test es c.in-Some.at (sym index)).0)
    ∙ taken_out c.args.prog c.args.vers c.args.netid.now es c.requires
