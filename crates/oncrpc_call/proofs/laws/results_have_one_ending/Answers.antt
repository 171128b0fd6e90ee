use Rattle.oncrpc_call.proofs.Alone.{one_ending, one_text}
use Rattle.oncrpc_call.proofs.OneLine.{one_line}
use Rattle.oncrpc_call.proofs.laws.results_have_one_ending.Goals as goal

pub returns : goal.returns
returns c = record {
  ending = one_ending c.each_spelling_is_one_value.ensures.one;
  text = one_text c.each_spelling_is_one_value.ensures.one;
  line = one_line c.each_spelling_is_one_value.ensures.one c.one_outcome.ensures;
}
