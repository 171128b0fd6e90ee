-- A part is handed out where one is to come.
use Rattle.std.specs.Prelude.{Bool, MatchBool}
use Rattle.xdr_cursor.specs.Private.Stepping.{IsRoomy}
use Rattle.xdr_cursor.proofs.Moving.{is_shallow, is_countable}
use Rattle.xdr_cursor.proofs.cursor.Cursor.step.Goals as goal
use Rattle.std.proofs.Common.{subst}

pub returns-then-not-is_roomy-clause-fault : goal.returns-then-not-is_roomy-clause-fault
returns-then-not-is_roomy-clause-fault c =
    λ es st.
    let w = c.args.self.now in
    let kinds = c.args.schema.now.kinds in
    let bytes = c.args.bytes.now in
    let roomy : IsRoomy w = record {
      shallow = is_shallow kinds bytes w es st c.args.next c.args.rest c.requires;
      few = is_countable kinds bytes w es st c.args.next c.args.rest c.requires;
    } in
    absurd (subst (λ (b : Bool). MatchBool b (IsRoomy w) (IsRoomy w → ⊥)) c.if-not-is_roomy.true c.is_roomy.ensures
    roomy)
