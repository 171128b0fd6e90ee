-- A part that is handed out to nobody is passed over.
use Rattle.xdr_cursor.proofs.Skipping.{step_passes}
use Rattle.xdr_cursor.proofs.cursor.Cursor.pass.Goals as goal

pub returns-clause-passed : goal.returns-clause-passed
returns-clause-passed c =
    λ es st.
    step_passes c.args.self.now c.step.new.self c.args.schema.now.kinds c.args.bytes.now es c.in_ok-_part._part
    (c.in_ok-_part.ensures.given es st) c.in_ok-_part.ensures.step.depth
