use Rattle.std.proofs.Common.{ap}
use Rattle.std.proofs.lemmas.Result.{IfOk-weaker}
use Rattle.rpc_message.specs.Message.{CallView}
use Rattle.example_call.proofs.ports.asks_over_ipv6.Goals as goal

pub returns : goal.returns
returns c =
    IfOk-weaker c.port_question.result _ _ (λ call is. ap (λ (v : CallView). v.args) is)
    c.port_question.ensures.asks
