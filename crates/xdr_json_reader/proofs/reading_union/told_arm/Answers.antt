use Rattle.std.proofs.Common.{◌≡◌, ℤ, map, option_map, sym, ap, ◌∙◌, rules, w64, to_z, of_z, Bor}
use Rattle.json.specs.Json.{Json, object}
use Rattle.xdr_types.specs.Kinds.{KindView, kind_at}
use Rattle.xdr_types.specs.KindViews.{part_of_member, branch_of}
use Rattle.xdr_types.specs.Fits.{part_in, is_tag_of}
use Rattle.xdr_json.specs.Mapping.{case_key}
use Rattle.xdr_types.specs.declared.kind.Member.{Member}
use Rattle.xdr_json.specs.Spelled.{is_tag_json, at_key}
use Rattle.xdr_json.proofs.Apart.{are_apart}
use Rattle.xdr_json_reader.specs.Tape.{members_of}
use Rattle.xdr_json_reader.specs.Private.Look.{pairs}
use Rattle.xdr_json_reader.proofs.FirstArms.{wants_no_case, wants_bad_case, wants_no_arm, lone_as}
use Rattle.xdr_json_reader.proofs.Groups.{tells_no_case, tells_bad_case, tells_no_arm}
use Rattle.xdr_json_reader.proofs.Groups.{mapped_some, mapped_none, not_some}
use Rattle.xdr_json_reader.specs.Reasons.{tag_reason}
use Rattle.xdr_json_reader.specs.declared.fault.JsonReason.TheVariants.{MissingMember, NoArm}
use Rattle.xdr_json_reader.proofs.reading_union.told_arm.Goals as goal

pub returns-in-Err : goal.returns-in-Err
returns-in-Err c =
    let kinds = c.args.schema.now.kinds in
    let tag = c.args.among.tag.place in
    let arms = map branch_of c.args.among.arms.now.items in
    let other = option_map part_of_member c.args.among.other.now in
    let ms = members_of (pairs c.args.members.now.items) in
    let is = c.look.ensures ∙ sym c.in-Some.ensures.1 in
    lone_as kinds _ (kind_at kinds c.args.among.id.place) (object ms) c.in-Err.why c.requires.kind
    (wants_bad_case kinds tag arms other ms
    (λ z t.
    c.in-Err.ensures.none z t.legal (ap (λ (j : Json). is_tag_json (kind_at kinds tag) z j) is ∙ t.shown)))
    (tells_bad_case kinds tag arms other ms c.in-Err.why c.in-Some.ensures.0
    (λ z h k.
    c.in-Err.ensures.none z h (ap (λ (j : Json). is_tag_json (kind_at kinds tag) z j) is ∙ k))
    (c.in-Err.ensures.why ∙ ap (tag_reason (kind_at kinds tag)) is))

pub returns-in_default : goal.returns-in_default
returns-in_default c =
    let kinds = c.args.schema.now.kinds in
    let tag = c.args.among.tag.place in
    let arms = map branch_of c.args.among.arms.now.items in
    let other = option_map part_of_member c.args.among.other.now in
    let ms = members_of (pairs c.args.members.now.items) in
    let none = rw (not_some c.member_at.result c.in_default.not-Some) at c.member_at.ensures in
    lone_as kinds _ (kind_at kinds c.args.among.id.place) (object ms) MissingMember c.requires.kind
    (wants_no_case kinds tag arms other ms none) (tells_no_case kinds tag arms other ms none)

pub returns-in-Some-part_in : goal.returns-in-Some-part_in
returns-in-Some-part_in c =
    let kinds = c.args.schema.now.kinds in
    let tag = c.args.among.tag.place in
    let ms = members_of (pairs c.args.members.now.items) in
    let z = c.in-Ok.number in
    let same : to_z w64 (of_z w64 c.in-Ok.number) ≡ c.in-Ok.number = search rules in
    let some = mapped_some (λ (m : Bor Member). part_of_member m.now) c.part_in.result c.in-Some-part_in.arm _
    c.in-Some-part_in.is c.part_in.ensures in
    record {
      legal = ap (λ (n : ℤ). is_tag_of (kind_at kinds tag) n) same ∙ c.in-Ok.ensures.legal;
      is = ap (λ (f : KindView). part_in f (to_z w64 (of_z w64 c.in-Ok.number))) (sym c.requires.kind) ∙ some;
      named = c.in-Some.ensures.0;
      shown = ap (λ (n : ℤ). is_tag_json (kind_at kinds tag) n (at_key ms case_key)) same
          ∙ ap (λ (j : Json). is_tag_json (kind_at kinds tag) z j) (c.in-Some.ensures.1 ∙ sym c.look.ensures)
          ∙ c.in-Ok.ensures.found;
    }

pub returns-in-None : goal.returns-in-None
returns-in-None c =
    let kinds = c.args.schema.now.kinds in
    let tag = c.args.among.tag.place in
    let arms = map branch_of c.args.among.arms.now.items in
    let other = option_map part_of_member c.args.among.other.now in
    let ms = members_of (pairs c.args.members.now.items) in
    let z = c.in-Ok.number in
    let same : to_z w64 (of_z w64 c.in-Ok.number) ≡ c.in-Ok.number = search rules in
    let apart = are_apart c.args.schema.now c.len-known.ensures.well_formed in
    let shown = ap (λ (j : Json). is_tag_json (kind_at kinds tag) z j) (c.in-Some.ensures.1 ∙ sym c.look.ensures)
    ∙ c.in-Ok.ensures.found in
    let none = mapped_none (λ (m : Bor Member). part_of_member m.now) c.part_in.result _ c.in-None.is
    c.part_in.ensures in
    let is = ap (λ (f : KindView). part_in f z) (sym c.requires.kind)
    ∙ ap (part_in (kind_at kinds c.args.among.id.place)) (sym same) ∙ none in
    lone_as kinds _ (kind_at kinds c.args.among.id.place) (object ms) NoArm c.requires.kind
    (wants_no_arm kinds apart tag arms other ms z (record { legal = c.in-Ok.ensures.legal; shown = shown }) is)
    (tells_no_arm kinds apart tag arms other ms z c.in-Some.ensures.0 c.in-Ok.ensures.legal shown is)
