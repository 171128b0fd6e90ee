use Rattle.std.proofs.Common.{ap, length}
use Rattle.registry_rows.specs.Views.{plain_row}
use Rattle.xdr_units.specs.Numbers.{word, pad}
use Rattle.registry_answer.proofs.Listing.{front_added, short_added}
use Rattle.registry_answer.proofs.dumps.push_front.Goals as goal

pub returns-in-len3-clause-ok : goal.returns-in-len3-clause-ok
returns-in-len3-clause-ok c =
    short_added (plain_row c.args.row.now) c.zeros_from.result c.args.before (length c.deref-address.result.now)
    c.args.out.now.items _ c.short_head-head.result c.deref-netid.result.now c.deref-netid.ensures.value
    c.in-len3.len_at_least c.in-len3.len_below (ap length c.deref-address.ensures.value) c.zeros_from.ensures
    c.short_head-head.ensures c.in_ok-extend_from_slice.ensures.items

pub returns-clause-ok : goal.returns-clause-ok
returns-clause-ok c =
    front_added (plain_row c.args.row.now) (pad c.args.before) c.args.out.now.items _ _ _ _ c.row_head.result
    c.deref-netid.result.now (word (length c.deref-address.result.now)) c.deref-netid.ensures.value
    (ap word (ap length c.deref-address.ensures.value)) c.row_head.ensures c.in_ok-push_between.ensures.ok
    c.in_ok-extend_from_slice-2.ensures.items c.in_ok-extend_from_slice-3.ensures.items
    c.in_ok-push_between-2.ensures.ok
