-- Each row is laid behind those before it.
use Rattle.std.proofs.Common.{◌+◌, ap, sym, ◌∙◌, arith, option_map}
use Rattle.registry_rows.specs.Views.{plain_row}
use Rattle.registry_answer.proofs.Listing.{some_within}
use Rattle.c_registry.proofs.Laid.{laid_more, texts_laid_more, laid_all, texts_laid_all}
use Rattle.c_registry.proofs.listing.list_of.Goals as goal

pub loop-index-preserved : goal.loop-index-preserved
loop-index-preserved c =
    let at = sym c.row.ensures.value ∙ ap (option_map (λ r. plain_row r.now)) c.in-Some.is in
    let push = c.in_ok-push-in-Some.ensures in
    record {
      rows = laid_more c.args.directory.now c.loop-index.index (c.loop-index.index + 1) (plain_row c.in-Some.row.now)
          c.loop-index.list.rows.items _ _ c.loop-index.list.bytes.items _ (omega arith) at push.rows push.bytes
          c.loop-index.invariant.rows;
      bytes = texts_laid_more c.args.directory.now c.loop-index.index (c.loop-index.index + 1)
          (plain_row c.in-Some.row.now) c.loop-index.list.bytes.items _ _ (omega arith) at push.bytes
          c.loop-index.invariant.bytes;
    }

pub unreachable-requires : goal.unreachable-requires
unreachable-requires c =
    some_within c.args.directory.now c.loop-index.index
    (omega (arith, c.loop-index-test.true, c.rows-rows.ensures.value))
    (sym c.row.ensures.value ∙ ap (option_map (λ r. plain_row r.now)) c.in-None.is)

pub returns-clause-rows : goal.returns-clause-rows
returns-clause-rows c =
    laid_all c.args.directory.now c.loop-index.index c.loop-index.list.rows.items c.loop-index.list.bytes.items
    (omega (arith, c.loop-index-test.false, c.rows-rows.ensures.value)) c.loop-index.invariant.rows

pub returns-clause-bytes : goal.returns-clause-bytes
returns-clause-bytes c =
    texts_laid_all c.args.directory.now c.loop-index.index c.loop-index.list.bytes.items
    (omega (arith, c.loop-index-test.false, c.rows-rows.ensures.value)) c.loop-index.invariant.bytes
