use Rattle.std.proofs.Common.{◌≡◌, List, [], ◌∷◌, ap, ◌∙◌}
use Rattle.xdr_types.specs.Kinds.{Part}
use Rattle.xdr_stream.specs.Frames.{left_of, rest_of, onto}
use Rattle.xdr_stream.specs.declared.machine.frame.Frame.{Frame}
use Rattle.xdr_stream.proofs.Frames.{onto_last}
use Rattle.xdr_parts.proofs.walk.Walk.open.Goals as goal

pub returns : goal.returns
returns c =
    let w = c.args.self.now in
    let f = c.in_ok-write.ensures.wrote in
    let left : left_of c.after.result ≡ rest_of (left_of w.work) =
    c.after.ensures ∙ ap (λ (x : Frame). rest_of (left_of x)) c.in_ok-write.ensures.work in
    let outer : onto [] c.push.new.self.items ≡ rest_of (left_of w.work) ∷ onto [] w.parents.items =
    ap (λ (x : List Frame). onto [] x) c.in_ok-push.ensures.items
    ∙ onto_last [] c.write.new.self.parents.items c.after.result
    ∙ ap (λ (x : List Part). x ∷ onto [] c.write.new.self.parents.items) left
    ∙ ap (λ (x : List Frame). rest_of (left_of w.work) ∷ onto [] x) c.in_ok-write.ensures.parents in
    record {
      schema_is = f.schema_is;
      bytes_are = f.bytes_are;
      at_is = f.at_is;
      stack_is = ap (λ (x : List (List Part)). left_of c.args.frame ∷ x) outer;
      lists_is = f.lists_is;
      more = f.more;
      begun = f.begun;
      parts_are = f.parts_are;
      lent = f.lent;
      taken = f.taken;
    }
