-- The parts inside come first, and the rest of the node around them behind.
use Rattle.std.proofs.Common.{List, [], ◌∷◌, refl, ap, ◌∙◌}
use Rattle.xdr_types.specs.Kinds.{Part}
use Rattle.xdr_cursor.specs.Frames.{left_in, onto}
use Rattle.xdr_cursor.specs.declared.frame.Frame.{Frame}
use Rattle.xdr_cursor.proofs.Onto.{onto_last}
use Rattle.xdr_cursor.proofs.cursor.Cursor.open.Goals as goal

pub returns-clause-went : goal.returns-clause-went
returns-clause-went c =
    λ kinds.
    let first = left_in kinds c.args.inside in
    record {
      same = record { used = refl; lost = refl };
      at = refl;
      stack = ap (λ (fs : List Frame). first ∷ onto kinds [] fs) c.in_ok-push.ensures.items
          ∙ ap (λ (x : List (List Part)). first ∷ x)
          (onto_last kinds [] c.args.self.now.parents.items c.args.rest);
      content = refl;
      steps = refl;
    }
