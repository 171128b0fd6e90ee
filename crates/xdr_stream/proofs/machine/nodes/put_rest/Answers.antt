use Rattle.std.proofs.Common.{◌≡◌, List, [], ◌∷◌, ◌++◌, ap, sym, ◌∙◌, Result, Ok, Err, OnOk}
use Rattle.xdr_types.specs.Kinds.{Part}
use Rattle.xdr_stream.specs.Frames.{left_of, rest_of, onto}
use Rattle.xdr_stream.specs.declared.machine.frame.Frame.{Frame}
use Rattle.xdr_stream.proofs.Frames.{onto_last}
use Rattle.xdr_stream.proofs.machine.nodes.put_rest.Goals as goal

on_ok : {A E P Q : Type 0} (r : Result A E) → (P → Q) → OnOk r P → OnOk r Q
on_ok (Ok v) f p = f p
on_ok (Err e) f p = tt

-- one more is put onto the others
put : (before behind : List Frame) (work rest : Frame) → left_of rest ≡ rest_of (left_of work)
    → behind ≡ before ++ rest ∷ [] → onto [] behind ≡ rest_of (left_of work) ∷ onto [] before
put before behind work rest left is =
    ap (λ (fs : List Frame). onto [] fs) is ∙ onto_last [] before rest
    ∙ ap (λ (ps : List Part). ps ∷ onto [] before) left

pub returns-in-Fields-clause-stack : goal.returns-in-Fields-clause-stack
returns-in-Fields-clause-stack c =
    on_ok c.push.result
    (put c.args.parents.now.items c.push.new.self.items c.args.work c.after.result
    (c.after.ensures ∙ ap (λ (w : Frame). rest_of (left_of w)) (sym c.in-Fields.is)))
    c.push.ensures.items

pub returns-in_default : goal.returns-in_default
returns-in_default c = record {
  stack = on_ok c.push-in_default.result
      (put c.args.parents.now.items c.push-in_default.new.self.items c.args.work c.after-in_default.result
      c.after-in_default.ensures)
      c.push-in_default.ensures.items;
  stays = c.push-in_default.ensures.stays;
}
