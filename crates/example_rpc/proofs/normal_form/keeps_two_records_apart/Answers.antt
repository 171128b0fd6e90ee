use Rattle.std.proofs.Common.{[], ◌∷◌}
use Rattle.rpc_record.specs.Marked.{header}
use Rattle.example_rpc.proofs.normal_form.Counted.{counted, two_are_whole}
use Rattle.example_rpc.proofs.normal_form.keeps_two_records_apart.Goals as goal

pub returns-clause-counted : goal.returns-clause-counted
unfolding header
returns-clause-counted g c =
    let laws = c.no_record_begins_another.ensures in
    let count = counted laws.longest laws.whole 100 ((97 ∷ []) ∷ [] ∷ [])
    (128 ∷ 0 ∷ 0 ∷ 1 ∷ 97 ∷ 128 ∷ 0 ∷ 0 ∷ 0 ∷ []) two_are_whole _ _ _ _ c.in_ok-count.count
    c.new-source.ensures.left c.in_ok-count.ensures.ok in
    (count.0.records, count.0.bytes)

pub returns-clause-written : goal.returns-clause-written
unfolding header
returns-clause-written g c =
    let laws = c.no_record_begins_another.ensures in
    let count = counted laws.longest laws.whole 100 ((97 ∷ []) ∷ [] ∷ [])
    (128 ∷ 0 ∷ 0 ∷ 1 ∷ 97 ∷ 128 ∷ 0 ∷ 0 ∷ 0 ∷ []) two_are_whole _ _ _ _ c.in_ok-count.count
    c.new-source.ensures.left c.in_ok-count.ensures.ok in
    count.1
