use Rattle.oncrpc_call.specs.Asked.{wanted_of}
use Rattle.example_call.proofs.Sendings.{all_sent, asked_once}
use Rattle.example_call.proofs.datagrams.sends_the_call.Goals as goal

pub returns : goal.returns
returns g c = λ zero.
    let e = c.call_datagram.ensures in
    let p = e.ends.printed zero in (
      e.asks.times,
      asked_once (wanted_of c.args.asked.now) e.answer p.text e.asks.times p.shows e.asks.none,
      e.asks.few,
      all_sent _ _ _ c.requires.fresh e.asks.sent,
    )
