use Rattle.registry_rows.specs.Views.{plain_row}
use Rattle.xdr_units.specs.Numbers.{pad}
use Rattle.registry_answer.proofs.Listing.{row_added}
use Rattle.registry_answer.proofs.dumps.push_row.Goals as goal

pub returns-clause-ok : goal.returns-clause-ok
returns-clause-ok c =
    row_added (plain_row c.args.row.now) (pad c.args.before) c.args.out.now.items _ _ _ _
    c.deref-address.result.now c.deref-owner.result.now c.deref-address.ensures.value c.deref-owner.ensures.value
    c.in_ok-push_front.ensures.ok c.in_ok-extend_from_slice.ensures.items c.in_ok-push_between.ensures.ok
    c.in_ok-extend_from_slice-2.ensures.items
