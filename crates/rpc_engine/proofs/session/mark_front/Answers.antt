use Rattle.std.proofs.Common.{◌≡◌, ◌-◌, ◌++◌, length, true, ap, ◌∙◌, arith, length-append}
use Rattle.rpc_record.specs.Marked.{header}
use Rattle.rpc_engine.proofs.Sessions.{front_set}
use Rattle.rpc_engine.proofs.session.mark_front.Goals as goal

pub returns : goal.returns
returns c = λ front reply four e.
    let count : c.len.result - 4 ≡ length reply = omega (
      arith,
      c.len.ensures,
      c.args.buffer.now.ok.0,
      ap length e,
      length-append front reply,
      four,
    ) in
    rw e (front_set front reply c.last_header.result four c.last_header.ensures.len
    ∙ ap (λ h. h ++ reply) (c.last_header.ensures.spelled ∙ ap (header true) count))
