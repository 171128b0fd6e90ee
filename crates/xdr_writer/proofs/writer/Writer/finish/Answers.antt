use Rattle.std.proofs.Common.{ℕ, List, length, subst, refl}
use Rattle.xdr_types.specs.Tree.{Tree}
use Rattle.xdr_types.specs.Within.{Bounds}
use Rattle.xdr_types.specs.Outcome.{Outcome, Whole}
use Rattle.xdr_writer.specs.Items.{all_spelled}
use Rattle.xdr_writer.specs.Represents.{kinds_of, kind_of}
use Rattle.xdr_writer.proofs.Outcomes.{ended}
use Rattle.xdr_writer.proofs.Putting.{written_items}
use Rattle.xdr_writer.proofs.Refusing.{rejects_end}
use Rattle.xdr_writer.proofs.writer.Writer.finish.Goals as goal

pub returns-in-Ok-clause-whole : goal.returns-in-Ok-clause-whole
returns-in-Ok-clause-whole c = λ is st.
    let w = c.args.self in
    let b : List ℕ = all_spelled is in
    let o = c.in-Ok.ensures.outcome b st.bytes in (
      written_items (kinds_of w) (kind_of w) w.limits is st.begin
          (ended (kinds_of w) (kind_of w) w.limits c.depth-in_range.ensures.range.units b
          (subst (λ (l : Bounds). (v : Tree) × Outcome (kinds_of w) (kind_of w) l b (Whole v (length b)))
          w.limits_are o.0)),
      o.1,
    )

pub returns-in-Err-clause-refuses : goal.returns-in-Err-clause-refuses
returns-in-Err-clause-refuses c =
    rejects_end c.args.self c.depth-in_range.ensures.range.units c.in-Err.fault c.in-Err.ensures.outcome
    c.in-Err.ensures.granted _ c.end_of.ensures refl
