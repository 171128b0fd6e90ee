use Rattle.std.proofs.Common.{◌∙◌, ◌&&◌, not, ap, sym, arith, option_map, string_bytes, true, false}
use Rattle.xdr_types.specs.KindViews.{part_of_member}
use Rattle.xdr_types.specs.Faults.{is_none}
use Rattle.xdr_types.proofs.Apart.{besides_arms, next, found, ends, was_again, has_text, no_text, one_text, added_text}
use Rattle.xdr_types.proofs.Apart.{by_arm, arms}
use Rattle.xdr_types.proofs.twice.arm_repeats.Goals as goal
use Rattle.xdr_types.proofs.twice.arm_repeats.Goals.{in-Some+in_ok-insert, in_default}

pub loop-i-init : goal.loop-i-init
loop-i-init c =
    elim c.match-other.branch [
      | in-Some+in_ok-insert w ↦ besides_arms _ _ w.insert.new.self _ w.in-Some.is w.later-is
          (one_text c.new-later.result w.insert.new.self w.as_str.result _ c.new-later.ensures.empty
          w.as_str.ensures.value w.in_ok-insert.ensures.updates) c.args.arms.now
      | in_default w ↦ besides_arms _ _ c.new-later.result _ w.in_default.is w.later-is
          (no_text c.new-later.result c.new-later.ensures.empty) c.args.arms.now
    ]

pub returns-then-is_again : goal.returns-then-is_again
returns-then-is_again c =
    let o = option_map part_of_member c.args.other.now in
    let a = c.index-arms-arms.result in
    let s = c.loop-i.later in
    let there = was_again (not (is_none (string_bytes a.member.name))) _ _ true (c.in_ok-is_new.ensures.added)
    (sym c.is_again.ensures ∙ c.if-is_again.true) in
    found (by_arm o) c.args.arms.now c.loop-i.i a a (has_text s) (omega arith) c.index-arms-arms.is
    (ap (λ b. not (is_none (string_bytes a.member.name)) && b) (ap (has_text s) (sym c.as_str-in-loop-i.ensures.value))
    ∙ there) c.loop-i.invariant
    ∙ arms o c.args.arms.now

pub loop-i-preserved : goal.loop-i-preserved
loop-i-preserved c =
    let o = option_map part_of_member c.args.other.now in
    let a = c.index-arms-arms.result in
    let s = c.loop-i.later in
    let n = c.insert-in-loop-i.new.self in
    let absent = was_again (not (is_none (string_bytes a.member.name))) _ _ false (c.in_ok-is_new.ensures.added)
    (sym c.is_again.ensures ∙ c.if-is_again.false) in
    next (by_arm o) c.args.arms.now c.loop-i.i a a (has_text s) (has_text n) (omega arith) c.index-arms-arms.is
    (ap (λ b. not (is_none (string_bytes a.member.name)) && b) (ap (has_text s) (sym c.as_str-in-loop-i.ensures.value))
    ∙ absent)
    (added_text s n c.as_str-in-loop-i.result _ c.as_str-in-loop-i.ensures.value c.in_ok-is_new.ensures.updates)
    c.loop-i.invariant

pub returns : goal.returns
returns c = let o = option_map part_of_member c.args.other.now in ends (by_arm o) c.args.arms.now c.loop-i.i
    (has_text c.loop-i.later) (omega arith) c.loop-i.invariant ∙ arms o c.args.arms.now
