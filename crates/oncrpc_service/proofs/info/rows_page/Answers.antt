-- The value that the decoder gives is a list of rows, and what it refuses begins with none.
use Rattle.xdr_types.specs.View.{tree}
use Rattle.oncrpc_service.proofs.Reporting.{reported_rows, reported_refusal}
use Rattle.oncrpc_service.proofs.Walks.{if_ok}
use Rattle.oncrpc_service.proofs.info.rows_page.Goals as goal

pub returns-in-Ok-clause-reported : goal.returns-in-Ok-clause-reported
returns-in-Ok-clause-reported c =
    let value = rw (c.in_ok-schema.ensures.schema, c.list_kind.ensures, c.dump_limits.ensures)
    at c.in-Ok.ensures.value in
    let page = c.in_ok-list_page-in-Ok.ensures in
    reported_rows c.args.vers c.args.results.now (tree c.in-Ok.list) c.in-Ok._used _ _ value.0 value.2 page.0 page.1

pub returns-clause-reported : goal.returns-clause-reported
returns-clause-reported c =
    let ends = rw (c.in_ok-schema.ensures.schema, c.list_kind.ensures, c.dump_limits.ensures)
    at c.in-Err.ensures.fault in
    let none = rw (c.in_ok-schema.ensures.schema, c.list_kind.ensures, c.dump_limits.ensures)
    at c.in-Err.ensures.refusal.refused in
    if_ok c.refusal_page.result
    (λ p reported. reported_refusal c.args.vers c.args.results.now c.in-Err.fault p.status p.text.items ends none
    c.in-Err.ensures.refusal.place c.in-Err.ensures.refusal.truncated reported) c.refusal_page.ensures.reported
