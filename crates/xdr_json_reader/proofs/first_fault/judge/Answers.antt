use Rattle.std.proofs.Common.{inr, sym, ap, ◌∙◌, subst}
use Rattle.json.specs.Json.{Json}
use Rattle.xdr_types.specs.Kinds.{kind_at}
use Rattle.xdr_json.proofs.Apart.{are_apart}
use Rattle.xdr_json_reader.specs.Tape.{json_in, members_of}
use Rattle.xdr_json_reader.specs.Reasons.{Wants}
use Rattle.xdr_json_reader.specs.Private.Entries.{due_of, dues}
use Rattle.xdr_json_reader.specs.Private.Look.{seen, pairs}
use Rattle.xdr_json_reader.specs.Private.Walk.{Judged}
use Rattle.xdr_json_reader.proofs.Firsts.{first_here}
use Rattle.xdr_json_reader.proofs.FirstMembers.{judged_members, no_names}
use Rattle.xdr_json_reader.proofs.first_fault.judge.Goals as goal

pub returns-in-Ok-Some : goal.returns-in-Ok-Some
returns-in-Ok-Some c =
    let kinds = c.args.schema.now.kinds in
    let place = c.args.turn.next.kind.place in
    let ms = members_of (pairs c.in-Object.members.now.items) in
    let is = sym (ap seen c.in-Object.is) ∙ c.look.ensures in
    let w = rw c.in-Ok-Some.field-0-is at c.in-Ok-Some.ensures in
    let wants = subst (λ (j : Json). Wants kinds (kind_at kinds place) j w.0) (sym is) w.2 in
    subst (λ (j : Json).
    Judged kinds (place, j) (dues c.args.due.now.items) (dues c.meet_members.new.due.items) c.meet_members.result) is
    (judged_members kinds (are_apart c.args.schema.now c.len-known.ensures.well_formed) place ms w.0
    (dues c.args.due.now.items) (dues c.meet_members.new.due.items) c.meet_members.result wants
    (c.meet_members.ensures w.0 w.1))

pub returns-in-Err : goal.returns-in-Err
returns-in-Err c =
    inr (first_here c.args.schema.now.kinds (due_of c.args.turn.next) c.in-Err.fault.why c.in-Err.ensures.0
    c.in-Err.ensures.1)

pub judge_alone-requires-clause-alone : goal.judge_alone-requires-clause-alone
judge_alone-requires-clause-alone c = rw c.in-Ok-None.field-0-is at c.in-Ok-None.ensures

pub judge_alone-requires-in_default-clause-alone : goal.judge_alone-requires-in_default-clause-alone
judge_alone-requires-in_default-clause-alone c =
    no_names c.args.schema.now.kinds (kind_at c.args.schema.now.kinds c.args.turn.next.kind.place) c.look.result
    (json_in c.args.turn.next.node.now) c.in_default.not-Object c.look.ensures
