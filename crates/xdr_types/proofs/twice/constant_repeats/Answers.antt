use Rattle.std.proofs.Common.{ap, ◌∙◌, sym, arith}
use Rattle.xdr_types.proofs.Apart.{begins, next, found, ends, was_absent, was_there, has_text, no_text, added_text}
use Rattle.xdr_types.proofs.Apart.{by_constant, constants}
use Rattle.xdr_types.proofs.twice.constant_repeats.Goals as goal

pub loop-i-init : goal.loop-i-init
loop-i-init c = begins by_constant c.args.members.now (has_text c.new-later.result)
    (no_text c.new-later.result c.new-later.ensures.empty)

pub returns-then-not-branch : goal.returns-then-not-branch
returns-then-not-branch c =
    let s = c.loop-i.later in
    let there = was_there _ _ c.in_ok-insert.ensures.added c.if-not-branch.true in
    found by_constant c.args.members.now c.loop-i.i c.index-members-members.result c.index-members-members.result
    (has_text s) (omega arith) c.index-members-members.is
    (ap (has_text s) (sym c.as_str.ensures.value) ∙ there) c.loop-i.invariant
    ∙ constants c.args.members.now

pub loop-i-preserved : goal.loop-i-preserved
loop-i-preserved c =
    let s = c.loop-i.later in
    let n = c.insert.new.self in
    let absent = was_absent _ _ c.in_ok-insert.ensures.added c.if-not-branch.false in
    next by_constant c.args.members.now c.loop-i.i c.index-members-members.result c.index-members-members.result
    (has_text s) (has_text n) (omega arith) c.index-members-members.is
    (ap (has_text s) (sym c.as_str.ensures.value) ∙ absent)
    (added_text s n c.as_str.result _ c.as_str.ensures.value c.in_ok-insert.ensures.updates) c.loop-i.invariant

pub returns : goal.returns
returns c = ends by_constant c.args.members.now c.loop-i.i (has_text c.loop-i.later) (omega arith) c.loop-i.invariant
    ∙ constants c.args.members.now
