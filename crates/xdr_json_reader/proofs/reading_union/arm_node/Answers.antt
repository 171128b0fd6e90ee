use Rattle.std.proofs.Common.{sym, ◌∙◌, arith}
use Rattle.xdr_types.specs.KindViews.{part_of_member}
use Rattle.xdr_json_reader.specs.Private.Look.{pairs}
use Rattle.xdr_json_reader.specs.Tape.{json_in, members_of}
use Rattle.xdr_json_reader.proofs.Fields.{many}
use Rattle.xdr_json_reader.proofs.Groups.{void_other, void_alone, arm_there, arm_extra, arm_missing}
use Rattle.xdr_json_reader.proofs.reading_union.arm_node.Goals as goal

pub returns-then-len-ne1 : goal.returns-then-len-ne1
returns-then-len-ne1 c =
    let ms = c.args.members.now.items in
    let long = many ms in (
      void_other c.args.schema.now.kinds (part_of_member c.args.arm.now) (members_of (pairs ms))
          (sym c.is_nothing.ensures ∙ c.if-is_nothing.true) (λ e. omega (arith, long, e)),
      c.other_members.ensures,
    )

pub returns-then-is_nothing : goal.returns-then-is_nothing
returns-then-is_nothing c =
    let ms = c.args.members.now.items in
    let long = many ms in
    void_alone c.args.schema.now.kinds (part_of_member c.args.arm.now) (members_of (pairs ms))
    (json_in c.args.turn.empty.now) (sym c.is_nothing.ensures ∙ c.if-is_nothing.true) (omega (arith, long)) c.requires

pub returns-then-len-ne2 : goal.returns-then-len-ne2
returns-then-len-ne2 c =
    let ms = c.args.members.now.items in
    let long = many ms in (
      arm_extra c.args.schema.now.kinds (part_of_member c.args.arm.now) (members_of (pairs ms))
          (sym c.is_nothing.ensures ∙ c.if-is_nothing.false) (λ e. omega (arith, long, e)),
      c.other_members-then-len-ne2.ensures,
    )

pub returns-else-len-ne2 : goal.returns-else-len-ne2
returns-else-len-ne2 c =
    let ms = c.args.members.now.items in
    let long = many ms in
    arm_there c.args.schema.now.kinds (part_of_member c.args.arm.now) (members_of (pairs ms))
    (json_in c.in-Some.node.now) c.key_of-key.result.now (sym c.is_nothing.ensures ∙ c.if-is_nothing.false)
    c.key_of-key.ensures c.in-Some.ensures.0 c.in-Some.ensures.1 (omega (arith, long))

pub returns-in-None : goal.returns-in-None
returns-in-None c = (
  arm_missing c.args.schema.now.kinds (part_of_member c.args.arm.now) (members_of (pairs c.args.members.now.items))
      c.key_of-key.result.now (sym c.is_nothing.ensures ∙ c.if-is_nothing.false) c.key_of-key.ensures c.in-None.ensures,
  c.other_members-in-None.ensures,
)
