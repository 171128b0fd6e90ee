use Rattle.std.proofs.Common.{subst, sym, refl}
use Rattle.xdr_types.specs.KindViews.{part_of_member}
use Rattle.xdr_stream.specs.Frames.{left_of, Begins}
use Rattle.xdr_stream.specs.declared.machine.frame.Frame.{Frame}
use Rattle.xdr_stream.proofs.Frames.{begins_map, begins_items}
use Rattle.xdr_stream.proofs.machine.frame.next.Goals as goal

pub returns-in-len1-up : goal.returns-in-len1-up
returns-in-len1-up c =
    subst (λ (f : Frame). Begins (left_of f) c.first-item.result.kind.place) (sym c.in-Fields.is)
    (begins_map c.in-Fields.fields.now c.first-item.result c.in-len1-up.len_at_least c.first-item.is)

pub returns-else-left-eq0 : goal.returns-else-left-eq0
returns-else-left-eq0 c =
    subst (λ (f : Frame). Begins (left_of f) c.in-Items.item.place) (sym c.in-Items.is)
    (begins_items c.in-Items.item.place c.in-Items.left (λ e. c.if-left-eq0.false e))

pub returns-in-Arm : goal.returns-in-Arm
returns-in-Arm c = subst (λ (f : Frame). Begins (left_of f) c.in-Arm.member.now.kind.place) (sym c.in-Arm.is)
    (part_of_member c.in-Arm.member.now, refl, refl)
