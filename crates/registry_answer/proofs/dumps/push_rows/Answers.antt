use Rattle.std.proofs.Common.{◌+◌, ◌++◌, length, List, ℕ, ap, sym, ◌∙◌, arith, option_map, append_assoc}
use Rattle.registry_rows.specs.Views.{plain_row}
use Rattle.xdr_units.specs.Numbers.{word, pad}
use Rattle.registry_answer.specs.Private.Pushes.{row_bytes}
use Rattle.registry_answer.proofs.Listing.{spelled_more, spelled_all, some_within, rows_spelled}
use Rattle.registry_answer.proofs.Chains.{begins_then}
use Rattle.registry_answer.proofs.dumps.push_rows.Goals as goal

pub returns-in_err-push_row-in-Some-clause-few : goal.returns-in_err-push_row-in-Some-clause-few
returns-in_err-push_row-in-Some-clause-few g c = c.rows-rows.ensures.dump.1.1

pub loop-index-preserved : goal.loop-index-preserved
loop-index-preserved g c = (
  spelled_more row_bytes c.args.directory.now c.loop-index.index (c.loop-index.index + 1)
      (plain_row c.in-Some.row.now) c.args.out.now.items (c.loop-index.out.items ++ pad c.loop-index.before) _
      (omega arith) (sym c.row.ensures.value ∙ ap (option_map (λ r. plain_row r.now)) c.in-Some.is)
      c.loop-index.invariant.0
      (ap (λ (x : List ℕ). c.push_row.new.out.items ++ pad (length x)) c.deref-owner.ensures.value
      ∙ c.in_ok-push_row-in-Some.ensures.ok),
  begins_then c.args.out.now.items c.loop-index.out.items _ c.loop-index.invariant.1
      c.in_ok-push_row-in-Some.ensures.begins,
)

pub unreachable-requires : goal.unreachable-requires
unreachable-requires g c =
    some_within c.args.directory.now c.loop-index.index
    (omega (arith, c.loop-index-test.true, c.rows-rows.ensures.value))
    (sym c.row.ensures.value ∙ ap (option_map (λ r. plain_row r.now)) c.in-None.is)

pub returns-clause-ok : goal.returns-clause-ok
returns-clause-ok g c =
    spelled_all row_bytes c.args.directory.now c.loop-index.index c.args.out.now.items
    (c.loop-index.out.items ++ pad c.loop-index.before) _ (word 0) _
    (omega (arith, c.loop-index-test.false, c.rows-rows.ensures.value)) c.loop-index.invariant.0
    (c.in_ok-push_between.ensures.ok ∙ sym (append_assoc c.loop-index.out.items (pad c.loop-index.before) (word 0)))
    (rows_spelled c.args.directory.now)

pub returns-clause-few : goal.returns-clause-few
returns-clause-few g c = c.rows-rows.ensures.dump.1.1

pub returns-in_err-push_row-in-Some-clause-begins : goal.returns-in_err-push_row-in-Some-clause-begins
returns-in_err-push_row-in-Some-clause-begins g c =
    begins_then c.args.out.now.items c.loop-index.out.items _ c.loop-index.invariant.1 c.push_row.ensures.begins
