-- A text of no bytes is no JSON.
use Rattle.oncrpc_encode.specs.Encoding.{sought_of}
use Rattle.example_program.proofs.Spelling.{none_written, said_first}
use Rattle.example_program.proofs.encoded.an_empty_text_is_refused_at_1_1.Goals as goal

pub returns : goal.returns
returns g c = record {
  refused = λ zero. none_written (sought_of c.args.target.now) _ _ _ c.new-input.ensures.left
      (c.encode_value_over.ensures.writes zero);
  unwritten = c.encode_value_over.ensures.unwritten;
  said = λ one. said_first (sought_of c.args.target.now) _ _ _ _ c.new-input.ensures.left
      (c.encode_value_over.ensures.refuses one);
}
