-- What the node shows is handed out.
use Rattle.std.proofs.Common.{ℕ, ◌+◌, [], ◌∷◌, ap, subst, arith}
use Rattle.std.specs.Prelude.{Option}
use Rattle.xdr_units.specs.Numbers.{gap}
use Rattle.xdr_types.specs.Layout.{Entry}
use Rattle.xdr_cursor.specs.Frames.{left_in, onto}
use Rattle.xdr_cursor.specs.Private.Showing.{part_of, IsThere, IsShown}
use Rattle.xdr_cursor.specs.Private.Stepping.{Went}
use Rattle.xdr_cursor.specs.declared.shown.Shown.{Shown}
use Rattle.xdr_cursor.proofs.Moving.{owed, gives_part, gives_length}
use Rattle.xdr_cursor.proofs.cursor.Cursor.step_shown.Goals as goal

pub returns-in_default-clause-fault : goal.returns-in_default-clause-fault
returns-in_default-clause-fault c =
    λ es due st.
    let w = c.args.self.now in
    let kinds = c.args.schema.now.kinds in
    let n = c.args.next in
    absurd (c.in_default.ensures.shown (part_of n) (left_in kinds c.args.rest) (onto kinds [] w.parents.items) es
    (owed kinds c.args.bytes.now w es st n c.args.rest due.0 due.1))

pub returns-in-Leaf-clause-given : goal.returns-in-Leaf-clause-given
returns-in-Leaf-clause-given c =
    λ es due st.
    let w = c.args.self.now in
    let kinds = c.args.schema.now.kinds in
    let bytes = c.args.bytes.now in
    let n = c.args.next in
    let rest = c.args.rest in
    let fs = onto kinds [] w.parents.items in
    let shown = subst (λ (s : Shown). IsShown kinds n.kind.place bytes w.at s) c.in-Leaf.is c.in-Some.ensures.shown in
    gives_part kinds bytes w es st n rest due.0 c.leaf.new.self c.leaf.result c.in-Leaf.role c.in-Leaf.size
    (c.in-Leaf.size + gap c.in-Leaf.size) (left_in kinds rest ∷ fs) c.leaf.ensures.part (c.leaf.ensures.went kinds)
    (shown (part_of n) (left_in kinds rest) fs es (owed kinds bytes w es st n rest due.0 due.1))

pub returns-in-Leaf-clause-same : goal.returns-in-Leaf-clause-same
returns-in-Leaf-clause-same c = (c.leaf.ensures.went []).same

pub returns-in-Leaf-clause-step : goal.returns-in-Leaf-clause-step
returns-in-Leaf-clause-step c =
    let w = c.leaf.ensures.went [] in
    record {
      lent = c.leaf.ensures.part.1;
      depth = ap (λ (e : Entry). e.depth) c.leaf.ensures.part.0;
      more = omega (arith, w.steps);
      few = omega (arith, w.steps, c.requires.room.few);
    }

pub returns-in_ok-part-in-Open-clause-given : goal.returns-in_ok-part-in-Open-clause-given
returns-in_ok-part-in-Open-clause-given c =
    λ es due st.
    let w = c.args.self.now in
    let kinds = c.args.schema.now.kinds in
    let bytes = c.args.bytes.now in
    let n = c.args.next in
    let rest = c.args.rest in
    let fs = onto kinds [] w.parents.items in
    let then = left_in kinds c.in-Open.inside ∷ left_in kinds rest ∷ fs in
    let shown = subst (λ (s : Shown). IsShown kinds n.kind.place bytes w.at s) c.in-Open.is c.in-Some.ensures.shown in
    gives_part kinds bytes w es st n rest due.0 c.open.new.self c.in_ok-part-in-Open.part c.in-Open.role
    c.in-Open.size c.in-Open.size then c.in_ok-part-in-Open.ensures.part
    (subst (λ (x : Option ℕ). Went kinds w c.open.new.self c.in-Open.size then x) due.1
    (c.in_ok-part-in-Open.ensures.went kinds))
    (shown (part_of n) (left_in kinds rest) fs es (owed kinds bytes w es st n rest due.0 due.1))

pub returns-in_ok-part-in-Open-clause-same : goal.returns-in_ok-part-in-Open-clause-same
returns-in_ok-part-in-Open-clause-same c = (c.in_ok-part-in-Open.ensures.went []).same

pub returns-in_ok-part-in-Open-clause-step : goal.returns-in_ok-part-in-Open-clause-step
returns-in_ok-part-in-Open-clause-step c =
    let w = c.in_ok-part-in-Open.ensures.went [] in
    record {
      lent = c.in_ok-part-in-Open.ensures.part.1;
      depth = ap (λ (e : Entry). e.depth) c.in_ok-part-in-Open.ensures.part.0;
      more = omega (arith, w.steps);
      few = omega (arith, w.steps, c.requires.room.few);
    }

pub returns-in-Counted-clause-given : goal.returns-in-Counted-clause-given
returns-in-Counted-clause-given c =
    λ es due st.
    let w = c.args.self.now in
    let kinds = c.args.schema.now.kinds in
    let bytes = c.args.bytes.now in
    let n = c.args.next in
    let rest = c.args.rest in
    let fs = onto kinds [] w.parents.items in
    let shown = subst (λ (s : Shown). IsShown kinds n.kind.place bytes w.at s) c.in-Counted.is c.in-Some.ensures.shown
    in
    let there = subst (λ (s : Shown). IsThere bytes w.at s) c.in-Counted.is c.in-Some.ensures.there in
    gives_length kinds bytes w es st n rest due.0 c.counted.new.self c.counted.result c.in-Counted.size due.1
    c.counted.ensures.part (c.counted.ensures.went kinds) there
    (shown (part_of n) (left_in kinds rest) fs es (owed kinds bytes w es st n rest due.0 due.1))

pub returns-in-Counted-clause-same : goal.returns-in-Counted-clause-same
returns-in-Counted-clause-same c = (c.counted.ensures.went []).same

pub returns-in-Counted-clause-step : goal.returns-in-Counted-clause-step
returns-in-Counted-clause-step c =
    let w = c.counted.ensures.went [] in
    record {
      lent = c.counted.ensures.part.1;
      depth = ap (λ (e : Entry). e.depth) c.counted.ensures.part.0;
      more = omega (arith, w.steps);
      few = omega (arith, w.steps, c.requires.room.few);
    }
