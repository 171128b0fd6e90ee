use Rattle.std.proofs.Common.{◌≡◌, ◌-◌, ◌++◌, length, true, ap, ◌∙◌, arith, length-append}
use Rattle.rpc_record.specs.Marked.{header}
use Rattle.registry_sessions.proofs.Marks.{marks_set}
use Rattle.registry_sessions.proofs.replies.mark_behind.Goals as goal

pub returns : goal.returns
returns c = λ old front reply len four e.
    let count : c.len.result - c.args.before - 4 ≡ length reply = omega (
      arith,
      c.len.ensures,
      c.args.out.now.ok.0,
      ap length e,
      length-append old (front ++ reply),
      length-append front reply,
      len,
      four,
    ) in
    rw e (marks_set old front reply c.last_header.result c.args.before len four c.last_header.ensures.len
    ∙ ap (λ h. old ++ (h ++ reply)) (c.last_header.ensures.spelled ∙ ap (header true) count))
