use Rattle.std.proofs.Common.{◌≡◌, ◌+◌, ℕ, Bool, true, List, [], ◌∷◌, ◌++◌, nat_lt, refl, ap, sym, ◌∙◌, subst}
use Rattle.std.proofs.Common.{filter, map}
use Rattle.std.proofs.Common.{Option, Some, None, option_map, Bor}
use Rattle.std.specs.Option.{option_map_or}
use Rattle.std.specs.Map.Iter.{deref}
use Rattle.std.proofs.lemmas.List.{map-append}
use Rattle.std.proofs.lemmas.Simd.{map-map}
use Rattle.std.proofs.lemmas.Iterator.Consumers.{YieldsList-from_rest, YieldsList-end}
use Rattle.indexmap.specs.IndexMap.{values}
use Rattle.registry_rows.specs.declared.row.Row.{Row}
use Rattle.registry_rows.specs.Rows as plain
use Rattle.registry_rows.specs.LookUp.{is_over, none_greater, greatest}
use Rattle.registry_rows.specs.Views.{plain_row, plain_rows}
use Rattle.registry_rows.proofs.Bounds.{found_is_row, seen}
use Rattle.registry_rows.proofs.Greatest.{IsGreatest, takes, leaves, skips, all_looked_at, retained_rows}
use Rattle.registry_rows.proofs.Twice.{registry}
use Rattle.registry_rows.proofs.looking.find_greatest.Goals as goal
use Rattle.registry_rows.proofs.looking.find_greatest.Goals.{else-is_over-via-then-is_over+else-is_above}
use Rattle.registry_rows.proofs.looking.find_greatest.Goals.{else-is_over-via-else-is_over}

abbrev view : Bor Row → plain.Row
view r = plain_row r.now

-- a lent row is compared as the plain one
same_test : (o : Option (Bor Row)) (v : ℕ)
    → option_map_or (λ b. nat_lt b.vers v) (option_map view o) true ≡ option_map_or (λ r. nat_lt r.now.vers v) o true
same_test None v = refl
same_test (Some r) v = refl

-- one more row is lent
module _ (over : plain.Row → Bool) (lent : List (Bor Row)) (r : Bor Row) (o : Option plain.Row) where
  one_more : IsGreatest (filter over (map view lent ++ view r ∷ [])) o
      → IsGreatest (filter over (map view (lent ++ r ∷ []))) o
  one_more = subst (λ xs. IsGreatest (filter over xs) o) (sym (map-append view lent (r ∷ [])))

pub loop-row-preserved-then-is_above : goal.loop-row-preserved-then-is_above
loop-row-preserved-then-is_above g c =
    let over = is_over c.args.prog c.args.netid.now in
    let r = c.in-Some.row in
    let above = same_test c.loop-row.greatest r.now.vers ∙ sym c.is_above.ensures ∙ c.if-is_above.true in (
      one_more over c.loop-row.yielded r (Some (view r))
          (takes over (map view c.loop-row.yielded) (view r) (option_map view c.loop-row.greatest)
          c.loop-row.invariant.0
          (sym c.is_over.ensures ∙ c.if-is_over.true) above),
      ap (λ (n : ℕ). n + 1) c.from-above.ensures,
    )

pub loop-row-preserved : goal.loop-row-preserved
loop-row-preserved g c =
    let over = is_over c.args.prog c.args.netid.now in
    let r = c.in-Some.row in
    let o = option_map view c.loop-row.greatest in (
      one_more over c.loop-row.yielded r o
          (elim c.else-is_over.branch [
            | else-is_over-via-then-is_over+else-is_above w ↦
                leaves over (map view c.loop-row.yielded) (view r) o c.loop-row.invariant.0
                (sym c.is_over.ensures ∙ w.if-is_over.true)
                (same_test c.loop-row.greatest r.now.vers ∙ sym w.is_above.ensures ∙ w.if-is_above.false)
            | else-is_over-via-else-is_over w ↦
                skips over (map view c.loop-row.yielded) (view r) o c.loop-row.invariant.0
                (sym c.is_over.ensures ∙ w.if-is_over.false)
          ]),
      c.loop-row.invariant.1,
    )

pub returns-clause-value : goal.returns-clause-value
returns-clause-value g c =
    let rows = c.args.rows.now in
    let over = is_over c.args.prog c.args.netid.now in
    let lent = YieldsList-end
    (YieldsList-from_rest (values rows)
    (c.into_iter-row-iterator.ensures.into_iter_gives ∙ c.values-row-items.ensures.rest))
    c.loop-row.yielded _ c.loop-row.yielded_by _ _ c.in-None.is c.next.ensures.steps in
    all_looked_at (filter over (map view c.loop-row.yielded)) (option_map view c.loop-row.greatest)
    c.loop-row.invariant.0
    ∙ ap (λ xs. greatest (filter over xs)) (sym (map-map plain_row deref c.loop-row.yielded) ∙ ap (map plain_row) lent.0
    ∙ map-map plain_row (λ e. e.1) rows.entries)

pub returns-clause-row : goal.returns-clause-row
returns-clause-row g c =
    let over = filter (is_over c.args.prog c.args.netid.now) (plain_rows c.args.rows.now.entries) in
    let rows = retained_rows (is_over c.args.prog c.args.netid.now) (plain_rows c.args.rows.now.entries)
    (registry c.args.rows.now.entries c.requires).each in
    seen view c.loop-row.greatest (greatest over) (returns-clause-value g c)
    (λ r e. found_is_row (none_greater over) over rows r e)
