use Rattle.std.proofs.Common.{ap, ◌∙◌, Some, List, ℕ, ◌∷◌, []}
use Rattle.rpc_message.specs.Spelling.{call}
use Rattle.oncrpc_service.specs.Infos.{dump_call}
use Rattle.example_program.proofs.Answered.{whole_datagram, all_sent}
use Rattle.example_program.proofs.Asks.{datagram_bytes}
use Rattle.example_program.proofs.service.asks_by_one_datagram.Goals as goal

pub returns : goal.returns
returns g c = λ printed.
    let e = c.info_datagram.ensures in
    let reported = e.ends.printed printed in
    all_sent _ _ _ c.requires.fresh
    (whole_datagram 4 _ reported.0 (call (dump_call 4)) _ _ _ _ e.answer reported.1 e.exchanged)
    ∙ ap (λ (d : List ℕ). Some (d ∷ [])) datagram_bytes
