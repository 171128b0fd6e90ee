-- What the decoder says of results.
use Rattle.xdr_types.specs.View.{tree}
use Rattle.std.proofs.lemmas.Result.{IfOk-weaker}
use Rattle.oncrpc_call.specs.Asked.{wanted_of}
use Rattle.oncrpc_call.proofs.Judged.{refused_page}
use Rattle.oncrpc_call.proofs.results.results_page.Goals as goal

pub value_page-requires : goal.value_page-requires
value_page-requires c = record {
  value = tree c.in-Ok._value;
  fits = c.in-Ok.ensures.value.0;
  within = c.in-Ok.ensures.value.1;
  spelled = c.in-Ok.ensures.value.2;
}

pub returns-in-Err-clause-told : goal.returns-in-Err-clause-told
returns-in-Err-clause-told c =
    IfOk-weaker c.refused_page.result _ _
    (λ p is. refused_page (wanted_of c.args.asked.now) c.args.results.now c.in-Err.fault p is.0 c.in-Err.ensures.fault
    c.in-Err.ensures.refusal.refused c.in-Err.ensures.refusal.place is.1) c.refused_page.ensures.told
