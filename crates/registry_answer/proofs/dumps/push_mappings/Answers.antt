use Rattle.std.proofs.Common.{◌+◌, ap, sym, ◌∙◌, arith, option_map}
use Rattle.registry_rows.specs.Views.{plain_row}
use Rattle.xdr_units.specs.Numbers.{word}
use Rattle.registry_answer.specs.Private.Pushes.{mapping_bytes}
use Rattle.registry_answer.proofs.Listing.{spelled_more, spelled_all, some_within, mappings_spelled}
use Rattle.registry_answer.proofs.Chains.{begins_then, begins_added}
use Rattle.registry_answer.proofs.dumps.push_mappings.Goals as goal

pub returns-in_err-push_mapping-in-Some-clause-few : goal.returns-in_err-push_mapping-in-Some-clause-few
returns-in_err-push_mapping-in-Some-clause-few g c = c.rows-rows.ensures.dump_ports.1.1

pub loop-index-preserved : goal.loop-index-preserved
loop-index-preserved g c =
    spelled_more mapping_bytes c.args.directory.now c.loop-index.index (c.loop-index.index + 1)
    (plain_row c.in-Some.row.now) c.args.out.now.items c.loop-index.out.items _ (omega arith)
    (sym c.row.ensures.value ∙ ap (option_map (λ r. plain_row r.now)) c.in-Some.is) c.loop-index.invariant
    c.in_ok-push_mapping-in-Some.ensures.ok

pub unreachable-requires : goal.unreachable-requires
unreachable-requires g c =
    some_within c.args.directory.now c.loop-index.index
    (omega (arith, c.loop-index-test.true, c.rows-rows.ensures.value))
    (sym c.row.ensures.value ∙ ap (option_map (λ r. plain_row r.now)) c.in-None.is)

pub returns-in_err-push_word-clause-few : goal.returns-in_err-push_word-clause-few
returns-in_err-push_word-clause-few g c = c.rows-rows.ensures.dump_ports.1.1

pub returns-clause-ok : goal.returns-clause-ok
returns-clause-ok g c =
    spelled_all mapping_bytes c.args.directory.now c.loop-index.index c.args.out.now.items c.loop-index.out.items _
    (word 0) _ (omega (arith, c.loop-index-test.false, c.rows-rows.ensures.value)) c.loop-index.invariant
    c.in_ok-push_word.ensures.ok
    (mappings_spelled c.args.directory.now)

pub returns-clause-few : goal.returns-clause-few
returns-clause-few g c = c.rows-rows.ensures.dump_ports.1.1

pub returns-in_err-push_mapping-in-Some-clause-begins : goal.returns-in_err-push_mapping-in-Some-clause-begins
returns-in_err-push_mapping-in-Some-clause-begins g c =
    begins_then c.args.out.now.items c.loop-index.out.items _
    (begins_added c.args.out.now.items _ c.loop-index.out.items c.loop-index.invariant) c.push_mapping.ensures.begins
