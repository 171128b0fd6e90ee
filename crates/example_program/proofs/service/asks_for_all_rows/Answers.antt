use Rattle.std.proofs.Common.{ap, ◌∙◌, Some}
use Rattle.example_program.proofs.Serves.{all_written}
use Rattle.example_program.proofs.Asks.{whole_call, dump_bytes}
use Rattle.rpc_message.specs.Spelling.{call}
use Rattle.oncrpc_service.specs.Infos.{dump_call}
use Rattle.example_program.proofs.service.asks_for_all_rows.Goals as goal

pub returns : goal.returns
returns g c = λ printed.
    let e = c.info_over.ensures in
    let reported = e.ends.printed printed in
    all_written _ _ _ c.requires.fresh (whole_call (call (dump_call 4)) 4 _ reported.0 _ _ e.answer
    reported.1 e.wrote) ∙ ap Some dump_bytes
