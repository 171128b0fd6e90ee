use Rattle.std.proofs.Common.{◌≡◌, ℤ, map, option_map, refl, ap, ◌∙◌, rules, w64, to_z, of_z}
use Rattle.xdr_types.specs.Fits.{is_tag_of, part_of}
use Rattle.xdr_json.specs.Mapping.{case_key}
use Rattle.xdr_json.specs.Spelled.{is_tag_json, at_key}
use Rattle.xdr_types.specs.Kinds.{kind_at}
use Rattle.xdr_types.specs.KindViews.{part_of_member, branch_of}
use Rattle.xdr_json.proofs.Apart.{are_apart}
use Rattle.xdr_json_reader.specs.Tape.{members_of}
use Rattle.xdr_json_reader.specs.Private.Look.{pairs}
use Rattle.xdr_json_reader.proofs.Groups.{tells_bad_arm, wrong_as}
use Rattle.xdr_json_reader.proofs.reading_union.chosen_arm.Goals as goal

pub returns-in-Err : goal.returns-in-Err
returns-in-Err c = c.in-Err.ensures.1

pub returns-in-Ok-arm_node : goal.returns-in-Ok-arm_node
returns-in-Ok-arm_node c =
    let kinds = c.args.schema.now.kinds in
    let tag = c.args.among.tag.place in
    let ms = members_of (pairs c.args.members.now.items) in
    let t = c.in-Ok.ensures in
    let same : to_z w64 (of_z w64 c.in-Ok.told.0) ≡ c.in-Ok.told.0 = search rules in record {
      part = part_of_member c.in-Ok.told.1.now;
      legal = ap (λ (z : ℤ). is_tag_of (kind_at kinds tag) z) same ∙ t.legal;
      is = ap (λ (z : ℤ). part_of (map branch_of c.args.among.arms.now.items)
          (option_map part_of_member c.args.among.other.now) z) same ∙ t.is;
      named = t.named;
      shown = ap (λ (z : ℤ). is_tag_json (kind_at kinds tag) z (at_key ms case_key)) same ∙ t.shown;
      alone = c.in-Ok-arm_node.ensures.0;
      kind = refl;
      node = c.in-Ok-arm_node.ensures.1;
    }

pub returns-in-Err-arm_node : goal.returns-in-Err-arm_node
returns-in-Err-arm_node c =
    let kinds = c.args.schema.now.kinds in
    let tag = c.args.among.tag.place in
    let t = c.in-Ok.ensures in
    wrong_as kinds _ (kind_at kinds c.args.among.id.place) _ _ c.in-Err-arm_node.fault.why c.requires.kind refl
    (tells_bad_arm kinds (are_apart c.args.schema.now c.len-known.ensures.well_formed) tag
    (map branch_of c.args.among.arms.now.items) (option_map part_of_member c.args.among.other.now)
    (members_of (pairs c.args.members.now.items)) c.in-Ok.told.0 (part_of_member c.in-Ok.told.1.now)
    c.in-Err-arm_node.fault.why t.named t.legal t.shown t.is c.in-Err-arm_node.ensures.0
    c.in-Err-arm_node.ensures.1)
