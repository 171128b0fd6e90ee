use Rattle.std.proofs.Common.{◌≡◌, true, sym, inr, arith, ap, ◌∙◌}
use Rattle.xdr_json.specs.Spelled.{is_empty}
use Rattle.xdr_json_reader.specs.Private.Look.{seen}
use Rattle.xdr_json_reader.proofs.Groups.{took_void}
use Rattle.xdr_json_reader.proofs.Leaves.{bad_nothing}
use Rattle.xdr_json_reader.specs.Tape.{json_in}
use Rattle.xdr_json_reader.specs.Reasons.{void_reason}
use Rattle.xdr_json_reader.specs.declared.fault.JsonReason.TheVariants.{WrongType, UnknownMember}
use Rattle.xdr_json_reader.proofs.Looks.{empty_object, full_object, no_empty_form, void_form}
use Rattle.xdr_json_reader.proofs.reading_group.read_nothing.Goals as goal

pub returns-then-len-eq0 : goal.returns-then-len-eq0
returns-then-len-eq0 c = λ kinds out due.
    let k : is_empty (json_in c.args.node.now) ≡ true =
    ap is_empty (sym c.look.ensures ∙ ap seen c.in-Object.is)
    ∙ empty_object c.in-Object.members.now.items (omega arith) in
    took_void kinds (json_in c.args.node.now) out due k

pub returns-else-len-eq0 : goal.returns-else-len-eq0
returns-else-len-eq0 c = λ kinds out due.
    inr (bad_nothing (json_in c.args.node.now) UnknownMember
    (λ h. full_object c.in-Object.members.now.items (λ e. omega (arith, e))
    (sym (ap is_empty (sym c.look.ensures ∙ ap seen c.in-Object.is)) ∙ h))
    (ap void_reason (sym (ap seen c.in-Object.is) ∙ c.look.ensures)) kinds)

pub returns-in_default : goal.returns-in_default
returns-in_default c = λ kinds out due.
    inr (bad_nothing (json_in c.args.node.now) WrongType
    (λ h. no_empty_form c.look.result c.in_default.not-Object (ap is_empty c.look.ensures ∙ h))
    (void_form c.look.result c.in_default.not-Object ∙ ap void_reason c.look.ensures) kinds)
