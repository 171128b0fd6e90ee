-- The parts that have one extent are passed over.
use Rattle.std.proofs.Common.{refl, sym, ◌∙◌}
use Rattle.std.proofs.lemmas.Bool.{false≢true}
use Rattle.xdr_cursor.proofs.Passing.{jump_there, jumped}
use Rattle.xdr_cursor.proofs.cursor.Cursor.jump.Goals as goal

pub returns-then-not-has_room-clause-fault : goal.returns-then-not-has_room-clause-fault
returns-then-not-has_room-clause-fault c =
    λ kinds es x b none st.
    let run = c.run_of-count.ensures kinds c.args.next.place b in
    let there = jump_there kinds c.args.bytes.now c.args.self.now es c.args.next.place c.run_of-count.result.0
    c.run_of-count.result.1 c.args.extent x run none st in
    false≢true (sym c.if-not-has_room.true ∙ c.has_room.ensures.1 there)

pub returns-clause-passed : goal.returns-clause-passed
returns-clause-passed c =
    λ kinds es x b none st.
    let run = c.run_of-count.ensures kinds c.args.next.place b in
    jumped kinds c.args.bytes.now c.args.self.now es c.args.next.place c.run_of-count.result.0
    c.run_of-count.result.1 c.args.extent x run none st _
    (record { same = record { used = refl; lost = refl }; at = refl; stack = refl; content = none; steps = refl })
