use Rattle.std.proofs.Common.{◌≡◌, ◌++◌, ℕ, length, take, inr, refl, sym, ap, ◌∙◌, arith}
use Rattle.xdr_json_reader.specs.Tape.{members_of}
use Rattle.xdr_json_reader.specs.Reasons.{values}
use Rattle.xdr_json_reader.specs.Private.Entries.{dues}
use Rattle.xdr_json_reader.specs.Private.Look.{pairs}
use Rattle.xdr_json_reader.proofs.FirstMembers.{met_whole, met_lack}
use Rattle.xdr_json_reader.proofs.Groups.{not_some}
use Rattle.xdr_json_reader.proofs.first_members.meet_members.Goals as goal

pub returns-then-len : goal.returns-then-len
returns-then-len c = λ ps isw.
    let ms = c.args.object.members.now.items in
    let long : c.len.result ≡ length c.args.object.members.now.items =
    omega (arith, c.len.ensures, c.args.object.members.now.ok.0) in
    inr (
      refl,
      met_lack ps ms c.in-Ok.front (c.in-Ok.ensures.front ps isw)
          (not_some c.in-Ok.front.why c.in_default-why.not-Some)
          (λ e. c.if-len.true (long ∙ e ∙ sym (c.len-2.ensures ps isw))),
    )

pub returns-in-Ok-push_values-2 : goal.returns-in-Ok-push_values-2
returns-in-Ok-push_values-2 c = λ ps isw.
    let ms = c.args.object.members.now.items in
    let long : c.len.result ≡ length c.args.object.members.now.items =
    omega (arith, c.len.ensures, c.args.object.members.now.ok.0) in
    let whole : c.len-3.result ≡ length c.args.object.members.now.items =
    omega (arith, c.len-3.ensures, c.args.object.members.now.ok.0) in
    met_whole ps ms c.in-Ok.front (dues c.args.due.now.items) (dues c.push_values-2.new.due.items)
    (c.in-Ok.ensures.front ps isw) (not_some c.in-Ok.front.why c.in_default-why.not-Some)
    (sym long ∙ c.if-len.false ∙ c.len-2.ensures ps isw)
    (c.in-Ok-push_values-2.ensures ps isw
    ∙ ap (λ (n : ℕ). values ps (members_of (pairs (take n ms))) ++ dues c.args.due.now.items) whole)
