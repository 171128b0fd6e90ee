-- The rows that were laid go into the buffers, or do not.
use Rattle.std.proofs.Common.{◌≡◌, length, rules}
use Rattle.c_registry.specs.Held.{held_of}
use Rattle.c_registry.specs.Listed.{buffers}
use Rattle.c_registry.proofs.Laid.{put_whole, put_none}
use Rattle.c_registry.proofs.listing.list_into.Goals as goal

pub returns-then-put : goal.returns-then-put
returns-then-put c =
    let rows : c.len.result ≡ length c.in-Ok.list.rows.items = search rules in
    let bytes : c.len-2.result ≡ length c.in-Ok.list.bytes.items = search rules in
    put_whole (held_of c.args.state.now).rows c.in-Ok.list.rows.items c.in-Ok.list.bytes.items c.in-Ok.ensures.rows
    c.in-Ok.ensures.bytes (buffers c.args.rows.now c.args.bytes.now) _ c.len.result c.len-2.result rows bytes
    (rw c.if-put.true at c.put.ensures)

pub returns : goal.returns
returns c =
    let rows : c.len.result ≡ length c.in-Ok.list.rows.items = search rules in
    let bytes : c.len-2.result ≡ length c.in-Ok.list.bytes.items = search rules in
    put_none (held_of c.args.state.now).rows c.in-Ok.list.rows.items c.in-Ok.list.bytes.items c.in-Ok.ensures.rows
    c.in-Ok.ensures.bytes (buffers c.args.rows.now c.args.bytes.now) _ c.len.result c.len-2.result rows bytes
    (rw c.if-put.false at c.put.ensures)
