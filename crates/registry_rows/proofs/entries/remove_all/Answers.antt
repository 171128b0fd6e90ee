use Rattle.std.proofs.Common.{◌≡◌, ap, sym, ◌∙◌, subst, rules, not, filter, nat_lt, length, arith}
use Rattle.registry_rows.specs.Rows.{NoneTwice}
use Rattle.registry_rows.proofs.Twice.{NoneTwice-filter}
use Rattle.std.specs.List.{list_any}
use Rattle.indexmap.proofs.CallerLemmas.{filter-RetainsPairs}
use Rattle.registry_rows.specs.Steps as step
use Rattle.registry_rows.specs.Views.{plain_row, plain_rows, AreKeyed}
use Rattle.registry_rows.proofs.Filtered.{plain_rows-filter, AreKeyed-filter, fewer_left, length-plain_rows}
use Rattle.registry_rows.proofs.Filtered.{none_without}
use Rattle.registry_rows.proofs.entries.remove_all.Goals as goal

pub returns-clause-entries : goal.returns-clause-entries
returns-clause-entries g c =
    let gone = step.is_unset c.args.prog c.args.vers c.args.netid.now c.args.owner.now in
    let left = filter-RetainsPairs _ (λ e. not (gone (plain_row e.1))) _
    (λ k v b w h call. search rules) _ _ c.retain.ensures.filtered in
    let rows : plain_rows c.retain.new.self.entries ≡ filter (λ r. not (gone r)) (plain_rows c.args.rows.now.entries) =
    ap plain_rows left ∙ plain_rows-filter (λ r. not (gone r)) c.args.rows.now.entries in
    record {
      keyed = subst AreKeyed (sym left)
          (AreKeyed-filter (λ r. not (gone r)) c.args.rows.now.entries c.requires.entries.keyed);
      none_twice = subst NoneTwice (sym rows)
          (NoneTwice-filter (λ r. not (gone r)) (plain_rows c.args.rows.now.entries) c.requires.entries.none_twice);
      few = omega (arith, c.retain.ensures.bound, c.requires.entries.few);
    }

pub returns-clause-step : goal.returns-clause-step
returns-clause-step g c =
    let gone = step.is_unset c.args.prog c.args.vers c.args.netid.now c.args.owner.now in
    let left = filter-RetainsPairs _ (λ e. not (gone (plain_row e.1))) _
    (λ k v b w h call. search rules) _ _ c.retain.ensures.filtered in
    let rows : plain_rows c.retain.new.self.entries ≡ filter (λ r. not (gone r)) (plain_rows c.args.rows.now.entries) =
    ap plain_rows left ∙ plain_rows-filter (λ r. not (gone r)) c.args.rows.now.entries in
    let after : c.len.result ≡ length (filter (λ r. not (gone r)) (plain_rows c.args.rows.now.entries)) =
    c.len.ensures.len ∙ sym (length-plain_rows c.retain.new.self.entries) ∙ ap length rows in
    let before : c.len-before.result ≡ length (plain_rows c.args.rows.now.entries) =
    c.len-before.ensures.len ∙ sym (length-plain_rows c.args.rows.now.entries) in
    let fewer : nat_lt c.len.result c.len-before.result ≡ list_any gone (plain_rows c.args.rows.now.entries) =
    (λ j. nat_lt (after j) (before j)) ∙ fewer_left gone (plain_rows c.args.rows.now.entries) in
    λ j. (rows j, fewer j)

pub returns-clause-refused : goal.returns-clause-refused
returns-clause-refused g c none =
    let gone = step.is_unset c.args.prog c.args.vers c.args.netid.now c.args.owner.now in
    none_without gone _ _ _ (returns-clause-step g c) none
