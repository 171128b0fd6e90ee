use Rattle.std.proofs.Common.{arith}
use Rattle.rpc_message.specs.Spelling.{call}
use Rattle.oncrpc_service.specs.Infos.{dump_call}
use Rattle.example_program.proofs.Answered.{not_reported}
use Rattle.example_program.proofs.service.prints_nothing_without_a_datagram.Goals as goal

pub returns-clause-no_rows : goal.returns-clause-no_rows
returns-clause-no_rows g c = λ zero.
    let e = c.info_datagram.ensures in
    let reported = e.ends.printed (omega (arith, zero)) in
    not_reported c.args.vers _ reported.0 (call (dump_call c.args.vers)) _ _ _ _ e.answer c.requires.none_left
    reported.1 e.exchanged

pub returns-clause-no_refusal : goal.returns-clause-no_refusal
returns-clause-no_refusal g c = λ one.
    let e = c.info_datagram.ensures in
    let reported = e.ends.printed (omega (arith, one)) in
    not_reported c.args.vers _ reported.0 (call (dump_call c.args.vers)) _ _ _ _ e.answer c.requires.none_left
    reported.1 e.exchanged
