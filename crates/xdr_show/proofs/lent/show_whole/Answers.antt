-- The lines of all parts are those of the value.
use Rattle.std.proofs.Common.{arith}
use Rattle.xdr_show.proofs.Batches.{nothing_said_yet, are_ready, said_more, all_said}
use Rattle.xdr_show.proofs.lent.show_whole.Goals as goal

pub loop-walk-init : goal.loop-walk-init
loop-walk-init c = λ v is.
    nothing_said_yet c.args.schema.now.kinds c.args.kind.place v c.args.bytes.now _ _ (c.start-walk.ensures v is)
    c.new-out.ensures.items

pub advance-requires : goal.advance-requires
advance-requires c =
    let h = c.loop-walk.invariant c.requires.0 c.requires.1 in (c.args.bytes.now, h.rest, h.awaits)

pub push_parts-requires : goal.push_parts-requires
push_parts-requires c =
    let h = c.loop-walk.invariant c.requires.0 c.requires.1 in
    rw c.list.ensures (are_ready c.args.schema.now.kinds c.args.kind.place c.args.limits c.requires.0 c.args.bytes.now
    c.requires.1 c.loop-walk.walk c.advance.new.self c.loop-walk.out.items h
    (c.in_ok-advance.ensures.parts c.args.bytes.now h.rest h.awaits))

pub loop-walk-preserved : goal.loop-walk-preserved
loop-walk-preserved c = λ v is.
    let h = c.loop-walk.invariant v is in
    said_more c.args.schema.now.kinds c.args.kind.place c.args.limits v c.args.bytes.now is c.loop-walk.walk
    c.advance.new.self c.loop-walk.out.items h (c.in_ok-advance.ensures.parts c.args.bytes.now h.rest h.awaits) _
    (rw c.list.ensures at c.in_ok-push_parts.ensures)

pub loop-walk-smaller : goal.loop-walk-smaller
loop-walk-smaller c =
    let h = c.loop-walk.invariant c.requires.0 c.requires.1 in
    omega (arith, h.awaits.few, c.in_ok-advance.ensures.more c.if-branch.true)

pub returns : goal.returns
returns c = λ v is.
    let h = c.loop-walk.invariant v is in
    all_said c.args.schema.now.kinds c.args.kind.place c.args.limits v c.args.bytes.now is c.loop-walk.walk
    c.loop-walk.out.items h (c.in_ok-advance.ensures.none c.if-branch.false c.args.bytes.now h.rest h.awaits)
