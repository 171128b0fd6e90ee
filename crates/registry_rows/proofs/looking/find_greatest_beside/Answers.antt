use Rattle.std.proofs.Common.{◌≡◌, ℕ, true, [], ◌∷◌, ◌++◌, ◌+◌, nat_lt, refl, ap, sym, ◌∙◌, subst, filter, take}
use Rattle.std.proofs.Common.{Option, Some, None, option_map, Bor}
use Rattle.std.specs.Option.{option_map_or}
use Rattle.registry_rows.specs.declared.row.Row.{Row}
use Rattle.registry_rows.specs.Rows as plain
use Rattle.registry_rows.specs.LookUp.{is_over, none_greater, greatest}
use Rattle.registry_rows.specs.Views.{plain_row, plain_rows}
use Rattle.registry_rows.proofs.Bounds.{found_is_row, seen}
use Rattle.registry_rows.proofs.Columns.{passed, take_next, take_past, seen_at, unseen_at}
use Rattle.registry_rows.proofs.Greatest.{IsGreatest, takes, leaves, skips, all_looked_at, retained_rows}
use Rattle.registry_rows.proofs.Twice.{registry}
use Rattle.registry_rows.proofs.looking.find_greatest_beside.Goals as goal
use Rattle.registry_rows.proofs.looking.find_greatest_beside.Goals.{then-is_over+then-is_greater, else-is_over}
use Rattle.registry_rows.proofs.looking.find_greatest_beside.Goals.{else-is_over-via-then-is_over+else-is_greater}
use Rattle.registry_rows.proofs.looking.find_greatest_beside.Goals.{else-is_over-via-else-is_over}

abbrev view : Bor Row → plain.Row
view r = plain_row r.now

pub loop-key-init : goal.loop-key-init
loop-key-init g c =
    passed c.args.prog c.args.netid.now c.args.column.now (plain_rows c.args.rows.now.entries) 0
    c.next_place-at.result c.requires.column c.next_place-at.ensures

-- a lent row is compared as the plain one
same_test : (o : Option (Bor Row)) (v : ℕ)
    → option_map_or (λ b. nat_lt b.vers v) (option_map view o) true ≡ option_map_or (λ r. nat_lt r.now.vers v) o true
same_test None v = refl
same_test (Some r) v = refl

pub loop-key-preserved : goal.loop-key-preserved
loop-key-preserved g c =
    let rows = plain_rows c.args.rows.now.entries in
    let over = is_over c.args.prog c.args.netid.now in
    let at = c.loop-key.at in
    let r = c.in-Some.row in
    let o = option_map view c.loop-key.greatest in
    let there = seen_at c.args.rows.now.entries at _ (sym c.in-Some.ensures.entry) in
    let next : take (at + 1) rows ≡ take at rows ++ view r ∷ [] = take_next rows at (view r) there in
    let joined : filter over (take c.next_place-at-in-Some.result rows) ≡ filter over (take at rows ++ view r ∷ []) =
    passed c.args.prog c.args.netid.now c.args.column.now rows (at + 1) c.next_place-at-in-Some.result
    c.requires.column c.next_place-at-in-Some.ensures ∙ ap (filter over) next in
    let move : (p : Option plain.Row) → IsGreatest (filter over (take at rows ++ view r ∷ [])) p
    → IsGreatest (filter over (take c.next_place-at-in-Some.result rows)) p =
    λ p. subst (λ xs. IsGreatest xs p) (sym joined) in
    elim c.if-is_over.branch [
      | then-is_over+then-is_greater w ↦
          rw w.greatest-is (move (Some (view r))
          (takes over (take at rows) (view r) o c.loop-key.invariant (sym c.is_over.ensures ∙ w.if-is_over.true)
          (same_test c.loop-key.greatest r.now.vers ∙ sym w.is_greater.ensures ∙ w.if-is_greater.true)))
      | else-is_over w ↦
          rw w.greatest-is (elim w.else-is_over.branch [
            | else-is_over-via-then-is_over+else-is_greater v ↦
                move o (leaves over (take at rows) (view r) o c.loop-key.invariant
                (sym c.is_over.ensures ∙ v.if-is_over.true)
                (same_test c.loop-key.greatest r.now.vers ∙ sym v.is_greater.ensures ∙ v.if-is_greater.false))
            | else-is_over-via-else-is_over v ↦
                move o (skips over (take at rows) (view r) o c.loop-key.invariant
                (sym c.is_over.ensures ∙ v.if-is_over.false))
          ])
    ]

pub returns-clause-value : goal.returns-clause-value
returns-clause-value g c =
    let rows = plain_rows c.args.rows.now.entries in
    let over = is_over c.args.prog c.args.netid.now in
    let past = unseen_at c.args.rows.now.entries c.loop-key.at (sym c.in_default.ensures.entry) in
    all_looked_at (filter over (take c.loop-key.at rows)) (option_map view c.loop-key.greatest) c.loop-key.invariant
    ∙ ap (λ xs. greatest (filter over xs)) (take_past rows c.loop-key.at past)

pub returns-clause-row : goal.returns-clause-row
returns-clause-row g c =
    let over = filter (is_over c.args.prog c.args.netid.now) (plain_rows c.args.rows.now.entries) in
    let rows = retained_rows (is_over c.args.prog c.args.netid.now) (plain_rows c.args.rows.now.entries)
    (registry c.args.rows.now.entries c.requires.entries).each in
    seen view c.loop-key.greatest (greatest over) (returns-clause-value g c)
    (λ r e. found_is_row (none_greater over) over rows r e)
