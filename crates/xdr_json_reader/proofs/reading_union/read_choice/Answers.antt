use Rattle.std.proofs.Common.{ℕ, map, option_map, sym, ap, ◌∙◌, ◌∷◌, inr, refl}
use Rattle.xdr_types.specs.Kinds.{kind_at}
use Rattle.xdr_types.specs.KindViews.{part_of_member, branch_of}
use Rattle.xdr_json_reader.specs.Tape.{json_in, members_of}
use Rattle.xdr_json_reader.specs.Private.Entries.{dues}
use Rattle.xdr_json_reader.specs.Private.Look.{seen, pairs}
use Rattle.xdr_json_reader.specs.declared.fault.JsonReason.TheVariants.{WrongType}
use Rattle.xdr_json_reader.proofs.Groups.{took_choice, bad_form_choice, wrong_as}
use Rattle.xdr_json_reader.proofs.Looks.{no_choice_form, choice_form}
use Rattle.xdr_json_reader.proofs.Nodes.{put_among, took_as}
use Rattle.xdr_json_reader.proofs.reading_union.read_choice.Goals as goal

pub returns-in-Ok : goal.returns-in-Ok
returns-in-Ok c =
    let kinds = c.args.schema.now.kinds in
    let k = c.in-Ok.ensures in
    let due = dues c.args.due.now.items in
    let j = json_in c.in-Ok.chosen.node.now in
    let is = sym (ap seen c.in-Object.is) ∙ c.look.ensures in
    put_among kinds (kind_at kinds c.args.among.id.place) (json_in c.args.turn.next.node.now) c.args.out.now.items
    c.put_arm.new.out.items due (dues c.put_arm.new.due.items) c.in-Ok.chosen.number c.in-Ok.chosen.kind.place j
    c.put_arm.result
    (λ b e.
    took_as kinds _ (kind_at kinds c.args.among.id.place) _ (json_in c.args.turn.next.node.now) c.args.out.now.items
    c.put_arm.new.out.items due (dues c.put_arm.new.due.items) c.requires.kind is
    (took_choice kinds c.args.among.tag.place (map branch_of c.args.among.arms.now.items)
    (option_map part_of_member c.args.among.other.now) c.in-Ok.chosen.number k.part
    (members_of (pairs c.in-Object.members.now.items)) j c.args.out.now.items c.put_arm.new.out.items due
    (dues c.put_arm.new.due.items) k.legal k.is k.named k.shown k.alone k.node b
    (e ∙ ap (λ (n : ℕ). (n, j) ∷ due) k.kind)))
    c.put_arm.ensures

pub returns-in-Err : goal.returns-in-Err
returns-in-Err c =
    let kinds = c.args.schema.now.kinds in
    let is = sym (ap seen c.in-Object.is) ∙ c.look.ensures in
    inr (wrong_as kinds (kind_at kinds c.args.among.id.place) (kind_at kinds c.args.among.id.place) _
    (json_in c.args.turn.next.node.now) c.in-Err.fault.why refl is c.in-Err.ensures)

pub returns-in_default : goal.returns-in_default
returns-in_default c =
    let kinds = c.args.schema.now.kinds in
    let tag = c.args.among.tag.place in
    let arms = map branch_of c.args.among.arms.now.items in
    let other = option_map part_of_member c.args.among.other.now in
    inr (wrong_as kinds _ (kind_at kinds c.args.among.id.place) (seen c.look.result)
    (json_in c.args.turn.next.node.now) WrongType c.requires.kind c.look.ensures
    (bad_form_choice kinds tag arms other (seen c.look.result)
    (λ z ps h. no_choice_form c.look.result kinds (kind_at kinds tag) z ps c.in_default.not-Object h)
    (choice_form c.look.result kinds tag arms other c.in_default.not-Object)))
