-- Content is handed out.
use Rattle.std.proofs.Common.{ℕ, ◌+◌, ◌≤◌, [], length, sym, ap, subst, ◌∙◌, arith}
use Rattle.std.proofs.lemmas.Bool.{false≢true}
use Rattle.xdr_types.specs.Layout.{Entry}
use Rattle.xdr_cursor.proofs.Moving.{content_there, gives_content}
use Rattle.xdr_cursor.proofs.cursor.Cursor.step_content.Goals as goal

pub returns-then-not-has_room-clause-fault : goal.returns-then-not-has_room-clause-fault
returns-then-not-has_room-clause-fault c =
    λ kinds es due st.
    let w = c.args.self.now in
    let bytes = c.args.bytes.now in
    let there = content_there kinds bytes w es st c.args.next c.args.rest due.0 c.args.size due.1 in
    false≢true (sym c.if-not-has_room.true
    ∙ c.has_room.ensures.1 (subst (λ (n : ℕ). w.at + n ≤ length bytes) (sym c.whole_units.ensures) there))

pub leaf-requires-clause-there : goal.leaf-requires-clause-there
leaf-requires-clause-there c =
    subst (λ (n : ℕ). c.args.self.now.at + n ≤ length c.args.bytes.now) c.whole_units.ensures
    (c.has_room.ensures.0 c.if-not-has_room.false)

pub returns-clause-given : goal.returns-clause-given
returns-clause-given c =
    λ kinds es due st.
    gives_content kinds c.args.bytes.now c.args.self.now es st c.args.next c.args.rest due.0 c.leaf.new.self
    c.leaf.result c.args.size due.1 c.leaf.ensures.part (c.leaf.ensures.went kinds)

pub returns-clause-same : goal.returns-clause-same
returns-clause-same c = (c.leaf.ensures.went []).same

pub returns-clause-step : goal.returns-clause-step
returns-clause-step c = record {
  lent = c.leaf.ensures.part.1;
  depth = ap (λ (e : Entry). e.depth) c.leaf.ensures.part.0;
  more = omega (arith, (c.leaf.ensures.went []).steps);
  few = omega (arith, (c.leaf.ensures.went []).steps, c.requires.room.few);
}
