use Rattle.std.proofs.Common.{ℕ, List, ap, ◌∙◌}
use Rattle.json.specs.Json.{Json}
use Rattle.xdr_json_reader.specs.Tape.{json_in}
use Rattle.xdr_json_reader.specs.Private.Frames.{frame_of, put, key_of}
use Rattle.xdr_json_reader.proofs.tape_text.step_out.Goals as goal

pub returns-in-Ok : goal.returns-in-Ok
returns-in-Ok c = record {
  parent = c.in-Some.parent;
  outer = c.in-Some.ensures.items;
  top = c.in-Ok.ensures
      ∙ ap (λ (k : List ℕ). put (frame_of c.in-Some.parent) k (json_in c.close-node.result.1)) c.close-node.ensures.key
      ∙ ap (λ (j : Json). put (frame_of c.in-Some.parent) (key_of (frame_of c.args.frames.top)) j)
      c.close-node.ensures.value;
}
