use Rattle.std.proofs.Common.{inr, map, subst, sym, ap, ◌∙◌, arith, refl}
use Rattle.std.proofs.lemmas.List.{length-map}
use Rattle.json.specs.Json.{Json, object}
use Rattle.xdr_types.specs.Kinds.{structure}
use Rattle.xdr_types.specs.KindViews.{part_of_member}
use Rattle.xdr_json_reader.specs.Tape.{json_in, members_of}
use Rattle.xdr_json_reader.specs.declared.fault.JsonReason.TheVariants.{WrongType}
use Rattle.xdr_json_reader.specs.Private.Entries.{dues}
use Rattle.xdr_json_reader.specs.Private.Look.{seen, pairs}
use Rattle.xdr_json_reader.specs.Private.Pending.{Took}
use Rattle.xdr_json_reader.proofs.Fields.{many}
use Rattle.xdr_json_reader.proofs.Groups.{took_group, bad_count, bad_each, bad_form_group, wrong_as}
use Rattle.xdr_json_reader.proofs.Looks.{no_group_form, group_form}
use Rattle.xdr_json_reader.proofs.reading_group.read_group.Goals as goal

pub returns-then-len : goal.returns-then-len
returns-then-len c = λ kinds out.
    let ps = map part_of_member c.args.fields.now.items in
    let ms = members_of (pairs c.in-Object.members.now.items) in
    let is = sym (ap seen c.in-Object.is) ∙ c.look.ensures in
    let long = many c.in-Object.members.now.items in
    let all = length-map c.args.fields.now.items part_of_member in
    inr (wrong_as kinds (structure (map part_of_member c.args.fields.now.items))
    (structure (map part_of_member c.args.fields.now.items)) (object ms) (json_in c.args.node.now)
    c.other_members.result.why refl is
    (bad_count ps ms c.other_members.result.why (λ e. c.if-len.true (omega (arith, long, all, e)))
    c.other_members.ensures kinds))

pub returns-in-Ok-false : goal.returns-in-Ok-false
returns-in-Ok-false c = λ kinds out.
    let ps = map part_of_member c.args.fields.now.items in
    let ms = members_of (pairs c.in-Object.members.now.items) in
    let is = sym (ap seen c.in-Object.is) ∙ c.look.ensures in
    let none = rw c.in-Ok-false.field-0-test at c.in-Ok-false.ensures in
    inr (wrong_as kinds (structure (map part_of_member c.args.fields.now.items))
    (structure (map part_of_member c.args.fields.now.items)) (object ms) (json_in c.args.node.now)
    c.other_members-in-Ok-false.result.why refl is
    (bad_each ps ms c.other_members-in-Ok-false.result.why none c.other_members-in-Ok-false.ensures kinds))

pub returns-in_default : goal.returns-in_default
returns-in_default c = λ kinds out.
    let ps = map part_of_member c.args.fields.now.items in
    inr (wrong_as kinds (structure (map part_of_member c.args.fields.now.items))
    (structure (map part_of_member c.args.fields.now.items)) (seen c.look.result) (json_in c.args.node.now) WrongType
    refl c.look.ensures
    (bad_form_group ps (seen c.look.result)
    (λ h. no_group_form c.look.result ps c.in_default.not-Object h) kinds
    (group_form c.look.result kinds ps c.in_default.not-Object)))

pub returns-in-Ok-true : goal.returns-in-Ok-true
returns-in-Ok-true c = λ kinds out.
    let ps = map part_of_member c.args.fields.now.items in
    let ms = members_of (pairs c.in-Object.members.now.items) in
    let is = sym (ap seen c.in-Object.is) ∙ c.look.ensures in
    let long = many c.in-Object.members.now.items in
    let all = length-map c.args.fields.now.items part_of_member in
    let both = rw c.in-Ok-true.field-0-test at c.in-Ok-true.ensures in
    subst (λ (j : Json). Took kinds (structure (map part_of_member c.args.fields.now.items)) j out out
    (dues c.args.due.now.items) (dues c.push_fields.new.due.items)) is
    (took_group ps ms out (dues c.args.due.now.items) (dues c.push_fields.new.due.items) (omega (arith, long, all))
    both.0 both.1 kinds)
