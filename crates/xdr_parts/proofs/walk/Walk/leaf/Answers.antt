use Rattle.std.proofs.Common.{List, [], ◌∷◌, ap, ◌∙◌}
use Rattle.xdr_types.specs.Kinds.{Part}
use Rattle.xdr_stream.specs.Frames.{left_of, rest_of, onto}
use Rattle.xdr_stream.specs.declared.machine.frame.Frame.{Frame}
use Rattle.xdr_parts.proofs.walk.Walk.leaf.Goals as goal

pub returns : goal.returns
returns c =
    let w = c.args.self.now in
    let f = c.in_ok-write.ensures.wrote in
    record {
      schema_is = f.schema_is;
      bytes_are = f.bytes_are;
      at_is = f.at_is;
      stack_is = ap (λ (x : List Part). x ∷ onto [] c.write.new.self.parents.items) c.requires.rest
          ∙ ap (λ (x : List Frame). rest_of (left_of w.work) ∷ onto [] x) c.in_ok-write.ensures.parents;
      lists_is = f.lists_is;
      more = f.more;
      begun = f.begun;
      parts_are = f.parts_are;
      lent = f.lent;
      taken = f.taken;
    }
