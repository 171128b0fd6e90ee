use Rattle.std.proofs.Common.{◌≡◌, ap, sym, ◌∙◌, ◌++◌, [], ◌∷◌, None, List, subst, arith, length, ◌+◌, ◌<◌, false}
use Rattle.std.specs.Map.{lookup}
use Rattle.std.proofs.lemmas.List.{length-append}
use Rattle.indexmap.proofs.CallerLemmas.{insert_entry-new}
use Rattle.registry_rows.specs.declared.key.Key.{Key}
use Rattle.registry_rows.specs.declared.row.Row.{Row}
use Rattle.registry_rows.specs.Keys.{key_of}
use Rattle.registry_rows.specs.Rows.{NoneTwice, IsRow, is_at}
use Rattle.std.specs.List.{list_any}
use Rattle.registry_rows.specs.Views.{plain_row, plain_rows, AreEntries}
use Rattle.registry_rows.proofs.Keyed.{key_eq}
use Rattle.registry_rows.proofs.Added.{lookup_none, AreKeyed-push, plain_rows-push}
use Rattle.registry_rows.proofs.Twice.{NoneTwice-push}
use Rattle.registry_rows.proofs.entries.append.Goals as goal

-- One more entry, of a row whose key there was not.
entries_more : (es : List (Key × Row)) (k : Key) (r : Row) → AreEntries es → length es < 1024 → IsRow (plain_row r)
    → k ≡ key_of r.prog r.vers r.netid.items
    → list_any (is_at r.prog r.vers r.netid.items) (plain_rows es) ≡ false → AreEntries (es ++ (k, r) ∷ [])
entries_more es k r h space row key absent =
    let n : length (es ++ (k, r) ∷ []) ≡ length es + 1 = length-append es ((k, r) ∷ []) in
    record {
      keyed = AreKeyed-push es (k, r) h.keyed (record { key = key; row = row });
      none_twice = subst NoneTwice (sym (plain_rows-push es (k, r)))
          (NoneTwice-push (plain_rows es) (plain_row r) h.none_twice absent);
      few = omega (arith, n, space);
    }

pub returns-in-Ok-clause-entries : goal.returns-in-Ok-clause-entries
returns-in-Ok-clause-entries g c =
    let row : Row = c.args.row in
    let key : c.new-key.result ≡ key_of row.prog row.vers row.netid.items = c.new-key.ensures
    ∙ ap (key_of row.prog row.vers) c.deref.ensures.value in
    let none = subst (λ k. lookup (key_eq k) c.args.rows.now.entries ≡ None) (sym key)
    (lookup_none row.prog row.vers row.netid.items c.args.rows.now.entries c.requires.entries.keyed
    c.requires.absent) in
    let entries = c.in-Ok.ensures.entries ∙ insert_entry-new key_eq c.args.rows.now c.new-key.result row none in
    subst AreEntries (sym entries)
    (entries_more c.args.rows.now.entries c.new-key.result row c.requires.entries c.requires.space c.requires.row key
    c.requires.absent)

pub returns-in-Ok-clause-ok : goal.returns-in-Ok-clause-ok
returns-in-Ok-clause-ok g c =
    let row : Row = c.args.row in
    let key : c.new-key.result ≡ key_of row.prog row.vers row.netid.items = c.new-key.ensures
    ∙ ap (key_of row.prog row.vers) c.deref.ensures.value in
    let none = subst (λ k. lookup (key_eq k) c.args.rows.now.entries ≡ None) (sym key)
    (lookup_none row.prog row.vers row.netid.items c.args.rows.now.entries c.requires.entries.keyed
    c.requires.absent) in
    let entries = c.in-Ok.ensures.entries ∙ insert_entry-new key_eq c.args.rows.now c.new-key.result row none in
    ap plain_rows entries ∙ plain_rows-push c.args.rows.now.entries (c.new-key.result, row)
