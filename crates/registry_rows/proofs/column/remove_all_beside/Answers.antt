use Rattle.std.proofs.Common.{◌≡◌, ℕ, ◌+◌, Bool, true, false, not, ◌&&◌, ◌||◌, nat_eq, List, take, filter, ap}
use Rattle.std.proofs.Common.{◌∙◌, arith}
use Rattle.std.specs.List.{prefix_len}
use Rattle.std.specs.Str.{bytes_eq}
use Rattle.registry_rows.specs.Rows.{Row}
use Rattle.registry_rows.specs.Columns.{programs_of, is_other}
use Rattle.registry_rows.specs.Steps.{is_unset, is_empty, may_remove}
use Rattle.registry_rows.specs.Views.{plain_rows}
use Rattle.registry_rows.proofs.Columns.{front_stays}
use Rattle.registry_rows.proofs.Twice.{nat_eq-sym}
use Rattle.registry_rows.proofs.column.remove_all_beside.Goals as goal

-- a row of another program stays
others_stay : (prog vers : ℕ) (netid owner : List ℕ) (r : Row) → nat_eq r.prog prog ≡ false
    → not (is_unset prog vers netid owner r) ≡ true
others_stay prog vers netid owner r e =
    ap (λ b. not (((b && nat_eq vers r.vers) && (is_empty netid || bytes_eq netid r.netid)) && may_remove owner r))
    (nat_eq-sym prog r.prog ∙ e)

pub fill-requires-clause-begun : goal.fill-requires-clause-begun
fill-requires-clause-begun g c =
    let rows = plain_rows c.args.rows.now.entries in
    let stays : Row → Bool = λ r. not (is_unset c.args.prog c.args.vers c.args.netid.now c.args.owner.now r) in
    let left : plain_rows c.remove_all-is_gone.new.rows.entries ≡ filter stays rows =
    ap (λ p. p.0) c.remove_all-is_gone.ensures.step in
    let front : c.truncate.new.self.items ≡ take c.next_place-first.result (programs_of rows) =
    c.truncate.ensures.items ∙ ap (take c.next_place-first.result) c.requires.column in
    let n : ℕ = prefix_len (is_other c.args.prog) (programs_of rows) in
    let same : 0 + n ≡ n = omega arith in
    let first : c.next_place-first.result ≡ n = c.next_place-first.ensures
    ∙ ap (λ (ps : List ℕ). 0 + prefix_len (is_other c.args.prog) ps) (c.deref.ensures.0 ∙ c.requires.column) ∙ same in
    rw (left, front, first)
    (front_stays c.args.prog stays (others_stay c.args.prog c.args.vers c.args.netid.now c.args.owner.now) rows)
